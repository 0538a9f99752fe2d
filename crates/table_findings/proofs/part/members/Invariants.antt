use Rattle.std.proofs.Common.{◌≡◌, ◌++◌}
use Rattle.toml.specs.View.{members_view, table_view}
use Rattle.table_findings.specs.Shape.{members}
use Rattle.table_findings.specs.Views.{findings_of, subject_of}
use Rattle.table_findings.proofs.part.members.Given as goal

abbrev pub invariant-loop-key : goal.invariant-loop-key
invariant-loop-key l =
    (goal.iterator-loop-key).can_next l.key-iterator ×
    (goal.iterator-loop-key).is_finite l.key-iterator ×
    (findings_of l.found.items ++ members (subject_of l.subject) l.part (members_view l.key-iterator)
    ≡ findings_of l.fn.found.items ++ members (subject_of l.subject) l.part (table_view l.fn.table))
