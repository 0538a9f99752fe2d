-- The properties that a section shares with the program that it is compiled from.
use Rattle.std.specs.Prelude.{map}
use Rattle.apex_types.specs.declared.cost.Costs.{Costs}
use Rattle.engine_meaning.specs.Simulates.{Simulates}
use Rattle.machine_meaning.specs.MachineControl.{machine_engine}
use Rattle.machine_meaning.specs.MachineMeaning.{machine_body}
use Rattle.machine_meaning.specs.Section.{Section}
use Rattle.machine_meaning.specs.Instructions.{reading}
use Rattle.pal_meaning.specs.Program.{Program}
use Rattle.compiling_laws.specs.Related.{Keeps}
use Rattle.pal_meaning.specs.SourceControl.{source_engine}

-- The processor over a section cannot be distinguished from a program's source, whatever both cost: at
-- each start of a body, by each tick over any data, and by each reply.
abbrev pub IsFaithful : Section → Program → Type 0
IsFaithful section program =
    let code = map reading section.code in
    (costs : Costs) → Simulates (Keeps code program.procedures) (source_engine costs program) (machine_engine costs code section.routines (machine_body section))
