-- A step of the kernel that the code makes.
use Rattle.std.specs.Prelude.{◌≡◌, ◌++◌}
use Rattle.apex_types.specs.Output.{Output}
use Rattle.kernel_meaning.specs.Step.{Step, after}

-- ---- a step that the code makes

-- The step is made: the part is the one after it, and its lines and actions follow those that were
-- there before.
abbrev pub IsMade : {P : Type 0} → Step P → P → Output → Output → Type 0
IsMade s part before after = (part ≡ s.part) × (after.lines ≡ before.lines ++ s.lines) × (after.actions ≡ before.actions ++ s.actions)

-- the same for a step that leaves its part unchanged
abbrev pub IsTold : {P : Type 0} → Step P → Output → Output → Type 0
IsTold s before after = (after.lines ≡ before.lines ++ s.lines) × (after.actions ≡ before.actions ++ s.actions)
