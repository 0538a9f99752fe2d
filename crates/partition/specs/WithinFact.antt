-- That ports and a section are within their limits is one fact: it has at most one proof, so that a struct can carry it.
use Rattle.std.specs.Prelude.{List}
use Rattle.std.proofs.Props.{props}
use Rattle.apex_types.specs.declared.row.PortRow.{PortRow}
use Rattle.apex_types.specs.declared.row.Section.{Section}
use Rattle.process_table_base.specs.ShortFact.{shorts_prop}
use Rattle.partition.specs.Fresh.{AreWithinLimits}

pub within_prop : (ports : List PortRow) (s : Section) → IsProp (AreWithinLimits ports s)
within_prop ports s = hlevel (props, shorts_prop)
