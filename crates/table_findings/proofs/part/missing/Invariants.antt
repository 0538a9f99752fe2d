use Rattle.std.proofs.Common.{◌≡◌, ◌++◌, drop, map}
use Rattle.toml.specs.View.{table_view}
use Rattle.table_findings.specs.Shape.{missing}
use Rattle.table_findings.specs.Views.{findings_of, subject_of}
use Rattle.table_findings.proofs.part.missing.Given as goal

abbrev pub invariant-loop-key : goal.invariant-loop-key
invariant-loop-key l =
    findings_of l.found.items ++ missing (subject_of l.subject) l.part (table_view l.table) (map (λ key. key.now) (drop l.key-index l.keys))
    ≡ findings_of l.fn.found.items ++ missing (subject_of l.subject) l.part (table_view l.table) (map (λ key. key.now) l.keys)
