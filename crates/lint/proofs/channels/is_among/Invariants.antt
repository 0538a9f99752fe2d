use Rattle.std.proofs.Common.{◌≡◌, drop}
use Rattle.std.specs.List.{list_any}
use Rattle.lint.specs.Channels.{is_end_at}
use Rattle.lint.proofs.channels.is_among.Given as goal

abbrev pub invariant-loop-end : goal.invariant-loop-end
invariant-loop-end l = list_any (is_end_at l.place.partition l.place.port) l.ends ≡ list_any (is_end_at l.place.partition l.place.port) (drop l.end-index l.ends)
