use Rattle.std.proofs.Common.{◌≡◌, drop}
use Rattle.trace_stays.specs.Following.{has_name, place_from}
use Rattle.trace_stays.proofs.following.known_partition.Given as goal

abbrev pub invariant-loop-place : goal.invariant-loop-place
invariant-loop-place l = place_from 0 (has_name l.name) l.lanes ≡ place_from l.place (has_name l.name) (drop l.place l.lanes)
