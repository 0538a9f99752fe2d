-- The view of the records, and their invariants.
use Rattle.std.specs.Prelude.{◌≤◌, List, length}
use Rattle.apex_types.specs.declared.limits.TheConstants.{MOST_RUNNERS}
use Rattle.apex_types.specs.declared.process.ProcessStatus.{ProcessStatus}
use Rattle.process_table_base.specs.Bounds.{AreAllBounded}
use Rattle.process_table_base.specs.Timed.{AreTimed}
use Rattle.process_table_base.specs.declared.records.Records.TheInside.{Inside}

abbrev pub rows_of : Inside → List ProcessStatus
rows_of r = r.rows.items

-- INIT, the handler and no more processes than a partition may have; no record has ticks too great
-- for a sum; the timers are those of the records
pub record IsSound (r : Inside) : Type 0 where
  pub few : length r.rows.items ≤ MOST_RUNNERS
  pub bounded : AreAllBounded r.rows.items
  pub timed : AreTimed r.rows.items r.timers
