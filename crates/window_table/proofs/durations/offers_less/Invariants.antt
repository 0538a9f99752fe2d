use Rattle.std.proofs.Common.{◌≡◌, nat_lt, drop}
use Rattle.module_meaning.specs.Table.{offered}
use Rattle.window_table.proofs.durations.offers_less.Given as goal

abbrev pub invariant-loop-window : goal.invariant-loop-window
invariant-loop-window l = nat_lt (offered l.partition.0 l.low.0 l.high.0 l.windows) l.fn.duration.0 ≡ nat_lt (offered l.partition.0 l.low.0 l.high.0 (drop l.window-index l.windows)) l.missing
