-- The slots of a partition as the definitions see them.
use Rattle.std.specs.Prelude.{ℕ, ℤ, Bool, true, false, List, [], ◌∷◌, Option, Some, None, length, map}
use Rattle.apex_types.specs.declared.row.BodyRow.{BodyRow}
use Rattle.machine_meaning.specs.MachineControl.{MachineControl}
use Rattle.processor.specs.declared.context.Context.{Context}
use Rattle.regions.specs.Space.{Space, stacks_of}
use Rattle.partition_base.specs.declared.slot.Slot.{Slot}

-- the control of a context on a stack
abbrev pub control_on : Context → List ℤ → MachineControl
control_on c stack = record { pc = c.pc; fp = c.fp; sp = c.sp; stack = stack; spent = c.spent; awaits = c.awaits }

-- the control of a context, if something is left to do
abbrev pub control_while : Bool → MachineControl → Option MachineControl
control_while true control = Some control
control_while false control = None

abbrev pub control_of_slot : Slot → List ℤ → Option MachineControl
control_of_slot slot stack = control_while slot.is_active (control_on slot.context stack)

-- the control of a slot on no stack: whether it has something left to do
abbrev pub alone : Slot → Option MachineControl
alone slot = control_of_slot slot []

-- the controls of slots on their stacks, in order
abbrev pub controls_from : List Slot → List (List ℤ) → List (Option MachineControl)
controls_from [] stacks = []
controls_from (slot ∷ slots) [] = []
controls_from (slot ∷ slots) (stack ∷ stacks) = control_of_slot slot stack ∷ controls_from slots stacks

-- the number of words of each stack of a memory
abbrev pub stack_lengths : Space → List ℕ
stack_lengths s = map length (stacks_of s)

abbrev pub stack_of_body : BodyRow → ℕ
stack_of_body body = body.stack

-- whether a slot has something left to do
abbrev pub is_begun : Slot → Bool
is_begun slot = slot.is_active
