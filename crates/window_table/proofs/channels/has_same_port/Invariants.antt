use Rattle.std.proofs.Common.{◌≡◌, drop}
use Rattle.module_meaning.specs.Table.{has_twice, is_same_port}
use Rattle.window_table.proofs.channels.has_same_port.Given as goal

abbrev pub invariant-loop-place : goal.invariant-loop-place
invariant-loop-place l = has_twice is_same_port l.ends ≡ has_twice is_same_port (drop l.place l.ends)
