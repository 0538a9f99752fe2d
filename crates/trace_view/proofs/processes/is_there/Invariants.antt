use Rattle.std.proofs.Common.{◌≡◌, drop}
use Rattle.apex_types.specs.Line.{subject_text}
use Rattle.trace_view.specs.Processes.{is_there}
use Rattle.trace_view.proofs.processes.is_there.Given as goal

abbrev pub invariant-loop-row : goal.invariant-loop-row
invariant-loop-row l = is_there l.partition (subject_text l.who) (drop l.row-index l.rows) ≡ is_there l.partition (subject_text l.who) l.rows
