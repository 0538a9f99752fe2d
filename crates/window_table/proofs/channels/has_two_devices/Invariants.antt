use Rattle.std.proofs.Common.{◌≡◌, drop}
use Rattle.module_meaning.specs.Table.{has_two_devices}
use Rattle.window_table.proofs.channels.has_two_devices.Given as goal

abbrev pub invariant-loop-place : goal.invariant-loop-place
invariant-loop-place l = has_two_devices l.ends ≡ has_two_devices (drop l.place l.ends)
