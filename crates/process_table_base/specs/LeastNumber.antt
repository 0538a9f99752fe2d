-- The process that is released first, by the numbers that the waiting processes have taken.
use Rattle.std.specs.Prelude.{◌≡◌, ℕ, List}
use Rattle.apex_types.specs.declared.codes.Discipline.{Discipline}
use Rattle.apex_types.specs.declared.identity.Runner.{Runner}
use Rattle.apex_types.specs.declared.identity.Runner.TheVariants as runner
use Rattle.apex_types.specs.declared.process.Entry.{Entry}
use Rattle.kernel_laws.specs.WaitingOrder.{IsReleasedFirst}

-- a process that waits in the list, and that no other of the list is before
abbrev pub IsLeast : Discipline → (ℕ → ℕ) → List Entry → Runner → Type 0
IsLeast d number list p = (e : Entry) × (runner.Process e.process ≡ p) × IsReleasedFirst d number list e
