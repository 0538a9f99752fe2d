-- The facts about the row of a partition of an image.
use Rattle.std.specs.Prelude.{◌≤◌, length, All}
use Rattle.apex_types.specs.Limits.{MOST_PORTS, MOST_WORDS}
use Rattle.apex_types.specs.declared.row.PortRow.{PortRow}
use Rattle.module_meaning.specs.Table.{Partition}

-- no more ports than a partition may have, each for messages of no more words than a message may have
pub record HasPorts (row : Partition) : Type 0 where
  pub count : length row.ports ≤ MOST_PORTS
  pub words : All (λ (x : PortRow). x.words ≤ MOST_WORDS) row.ports
