-- The result of treating the processes, as the code has it.
use Rattle.std.specs.Prelude.{◌≡◌}
use Rattle.apex_types.specs.Output.{Output}
use Rattle.kernel_meaning.specs.Times as meaning
use Rattle.kernel_meaning.specs.Processes.{Processes}
use Rattle.kernel_meaning.specs.Made.{IsMade}
use Rattle.process_table_base.specs.declared.due.Treated.{Treated}

-- the step is made, and this is how many more errors may wait and the mode of a Clear
abbrev pub IsTreated : meaning.Treated → Processes → Output → Output → Treated → Type 0
IsTreated t part before after result = IsMade t.step part before after × (result.free ≡ t.free) × (result.clears ≡ t.clears)
