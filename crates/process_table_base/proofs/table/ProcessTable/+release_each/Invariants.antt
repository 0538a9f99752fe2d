use Rattle.std.proofs.Common.{length}
use Rattle.process_table_base.proofs.table.ProcessTable.+release_each.Given as goal

abbrev pub decreases-release_each : goal.decreases-release_each
decreases-release_each l = length l.entries.now
