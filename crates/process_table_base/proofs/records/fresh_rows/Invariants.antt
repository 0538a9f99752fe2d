use Rattle.std.proofs.Common.{◌≡◌, ◌∷◌, map, take}
use Rattle.kernel_meaning.specs.Fresh.{init_row, handler_row}
use Rattle.machine_meaning.specs.MachineMeaning.{machine_row}
use Rattle.process_table_base.proofs.records.fresh_rows.Given as goal

abbrev pub invariant-loop-process : goal.invariant-loop-process
invariant-loop-process l = l.rows.items ≡ init_row ∷ handler_row ∷ map machine_row (take l.process-index l.processes)
