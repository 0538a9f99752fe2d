-- The properties of a loaded section that the processor of a partition relies on, and the view of
-- it.
use Rattle.std.specs.Prelude.{◌≤◌, List, ◌∷◌, map, length}
use Rattle.apex_types.specs.declared.cost.Costs.{Costs}
use Rattle.apex_types.specs.declared.row.BodyRow.{BodyRow}
use Rattle.apex_types.specs.declared.row.Section.{Section}
use Rattle.apex_types.specs.Limits.{MOST_INSTRUCTIONS}
use Rattle.engine_meaning.specs.Engine.{Engine}
use Rattle.machine_meaning.specs.Instructions.{reading}
use Rattle.machine_meaning.specs.MachineControl.{MachineControl, machine_engine}
use Rattle.engine_meaning.specs.Engine.{body_at, or_init}
use Rattle.machine_meaning.specs.MachineMeaning.{body_of_row}
use Rattle.processor.specs.Fitting.{AreFitting}
use Rattle.regions.specs.Space.{Space, seen, zeros}
use Rattle.partition_base.specs.Slots.{stack_of_body}

-- the bodies of a section's processes, in order
abbrev pub bodies_of : Section → List BodyRow
bodies_of s = map body_of_row s.processes.items

-- The processor with these costs and a section's code, each instruction read from its sixteen bytes.
abbrev pub engine_of_section : Costs → Section → Engine MachineControl
engine_of_section costs s = machine_engine costs (map reading s.code.items) s.routines.items (body_at s.init s.handler (bodies_of s))

-- No more instructions than there may be, and each routine has room for its slots and two saved words.
pub record IsFittingSection (s : Section) : Type 0 where
  pub code : length s.code.items ≤ MOST_INSTRUCTIONS
  pub routines : AreFitting s.routines.items

-- the bodies of INIT, of the handler and of the processes, in order
abbrev pub runners_of : Section → List BodyRow
runners_of s = s.init ∷ or_init s.init s.handler ∷ bodies_of s

-- The memory of a section's partition before its first start: the initial data, and for each body
-- a stack of zeros.
abbrev pub fresh_memory : Section → Space
fresh_memory s = seen s.initial.items (map zeros (map stack_of_body (runners_of s))) 0
