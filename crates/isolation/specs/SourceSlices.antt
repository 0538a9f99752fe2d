-- The slice of a table and its programs that belongs to one partition, and the partition that runs on its own with
-- it.
use Rattle.std.specs.Prelude.{ℕ, List}
use Rattle.apex_types.specs.declared.device.DeviceLine.{DeviceLine}
use Rattle.apex_types.specs.declared.event.Event.{Event}
use Rattle.apex_types.specs.declared.cost.Costs.{Costs}
use Rattle.module_meaning.specs.Table.{Partition, Table}
use Rattle.pal_meaning.specs.Program.{Program}
use Rattle.pal_meaning.specs.SourceControl.{SourceControl}
use Rattle.module_meaning.specs.Table.{fixed_of}
use Rattle.module_meaning.specs.SourceMeaning.{source_member, source_module}
use Rattle.isolation.specs.Alone.{Alone, InputLine, Surroundings, trace_alone}
use Rattle.isolation.specs.Brought.{inputs_of}
use Rattle.isolation.specs.Surrounded.{surroundings_of}

-- The costs of constructs, the partition's number, its row, its program, and its surroundings.
pub record SourceSlice : Type 0 where
  pub costs : Costs
  pub number : ℕ
  pub row : Partition
  pub program : Program
  pub around : Surroundings

-- The slice of a table with these programs for partition p, if the row and the program are those of
-- p.
abbrev pub source_slice : Table → List Program → ℕ → Partition → Program → SourceSlice
source_slice t sources p row program = record { costs = t.costs; number = p; row = row; program = program; around = surroundings_of (source_module t sources).plan p row.ports }

-- the meaning of this partition and no other
abbrev pub source_alone : SourceSlice → Alone SourceControl
source_alone s = record { around = s.around; member = source_member s.costs (fixed_of s.around.schedule s.number s.row) s.row.ports s.program }

-- The trace of n ticks of a partition on its own, from its slice and its inputs.
abbrev pub source_slice_trace : SourceSlice → List InputLine → ℕ → List Event
source_slice_trace s inputs n = trace_alone (source_alone s) inputs n

-- the inputs of a partition in n ticks of a table's programs with these device lines
abbrev pub source_inputs : Table → List Program → ℕ → List DeviceLine → ℕ → List InputLine
source_inputs t sources p devices n = inputs_of (source_module t sources) p devices n
