-- The processor of a partition as the definitions see it.
use Rattle.std.specs.Prelude.{ℕ, ℤ, List, ◌∷◌, Option, length, map}
use Rattle.apex_types.specs.declared.row.BodyRow.{BodyRow}
use Rattle.engine_meaning.specs.Engine.{Engine}
use Rattle.machine_meaning.specs.MachineControl.{MachineControl, machine_engine}
use Rattle.engine_meaning.specs.Engine.{body_at, or_init}
use Rattle.regions.specs.Space.{Space, stacks_of}
use Rattle.partition_base.specs.Slots.{controls_from, stack_lengths, stack_of_body}
use Rattle.partition_base.specs.declared.machine.PartitionProcessor.{PartitionProcessor}

-- Its engine: its code, its routines, and the body of each runner.
abbrev pub engine_of : PartitionProcessor → Engine MachineControl
engine_of m = machine_engine m.code.costs m.code.instructions.items m.code.routines.items (body_at m.init m.handler m.processes.items)

-- the controls of INIT, of the handler and of each process that have something left to do
abbrev pub controls_of : PartitionProcessor → Space → List (Option MachineControl)
controls_of m s = controls_from m.slots.items (stacks_of s)

abbrev pub initial_of : PartitionProcessor → List ℤ
initial_of m = m.initial.items

-- the bodies of INIT, of the handler and of the processes, in order
abbrev pub bodies_in : PartitionProcessor → List BodyRow
bodies_in m = m.init ∷ or_init m.init m.handler ∷ m.processes.items

-- the number of words that a machine needs for the data and for each stack
abbrev pub layout_of : PartitionProcessor → List ℕ
layout_of m = length m.initial.items ∷ map stack_of_body (bodies_in m)

-- the number of words of a memory's data, and of each stack
abbrev pub laid_of : Space → List ℕ
laid_of s = length s.words ∷ stack_lengths s
