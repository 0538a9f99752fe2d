-- The view of the fields of the process table.
use Rattle.kernel_meaning.specs.Processes.{Processes}
use Rattle.process_table_base.specs.declared.table.ProcessTable.TheInside.{Inside}

abbrev pub processes_of : Inside → Processes
processes_of t = record { rows = t.records; ready = t.ready; running = t.running; lock = t.lock; queues = t.queues; handed = t.handed.items }
