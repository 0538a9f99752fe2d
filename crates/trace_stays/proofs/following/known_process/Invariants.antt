use Rattle.std.proofs.Common.{◌≡◌, drop}
use Rattle.apex_types.specs.Line.{subject_text}
use Rattle.trace_stays.specs.Following.{is_process, place_from}
use Rattle.trace_stays.proofs.following.known_process.Given as goal

abbrev pub invariant-loop-place : goal.invariant-loop-place
invariant-loop-place l = place_from 0 (is_process l.partition (subject_text l.who)) l.lanes ≡ place_from l.place (is_process l.partition (subject_text l.who)) (drop l.place l.lanes)
