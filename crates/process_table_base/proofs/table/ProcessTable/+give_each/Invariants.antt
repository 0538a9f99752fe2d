use Rattle.std.proofs.Common.{length}
use Rattle.process_table_base.proofs.table.ProcessTable.+give_each.Given as goal

abbrev pub decreases-give_each : goal.decreases-give_each
decreases-give_each l = length l.entries.now
