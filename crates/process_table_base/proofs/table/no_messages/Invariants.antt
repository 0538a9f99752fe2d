use Rattle.std.proofs.Common.{◌≡◌, map, take}
use Rattle.machine_meaning.specs.MachineMeaning.{machine_row}
use Rattle.kernel_meaning.specs.Fresh.{no_message}
use Rattle.process_table_base.proofs.table.no_messages.Given as goal

abbrev pub invariant-loop : goal.invariant-loop
invariant-loop l = l.handed.items ≡ map no_message (map machine_row (take l.index l.processes))
