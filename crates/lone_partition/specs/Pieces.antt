-- Many ticks of a partition together.
use Rattle.std.specs.Prelude.{◌≡◌, ◌≤◌, ℕ, zero, suc, ◌+◌, List, [], ◌++◌, Option, Some, None}
use Rattle.apex_types.specs.Line.{text_of}
use Rattle.apex_types.specs.declared.event.Event.{Event}
use Rattle.apex_types.specs.declared.identity.At.{At}
use Rattle.module_meaning.specs.Module.{next_tick}
use Rattle.kernel_meaning.specs.Partition.{Member, Moved, advances, followed_by, with_world}
use Rattle.kernel_meaning.specs.Windows.{at_tick, tick_from, owner, ended}
use Rattle.isolation.specs.Alone.{Surroundings, alone_from, inputs_in}
use Rattle.isolation.specs.declared.input.InputLine.{InputLine}
use Rattle.lone_partition.specs.Sent.{Sent, HasSent}

-- n ticks of a partition, one after another, whatever it belongs to
abbrev pub ticks_by : {C : Type 0} → ℕ → At → Member C → Moved C
ticks_by zero at x = record { world = x.world; lines = [] }
ticks_by (suc n) at x = followed_by (advances at x) (λ w. ticks_by n (next_tick at) (with_world x w))

-- ---- those of a lone partition

-- No input comes, no window ends, and the owner is `owns`.
pub record IsWithin (s : Surroundings) (lines : List InputLine) (origin t : ℕ) (owns : Option ℕ) : Type 0 where
  pub inputs : inputs_in t lines ≡ []
  pub ended : ended s.schedule (tick_from origin t) ≡ None
  pub owner : owner s.schedule (tick_from origin t) ≡ owns

-- n ticks from `at` on write these lines and lead from x to `next`, whatever ticks follow.
abbrev pub LeadsTo : {C : Type 0} → Surroundings → List InputLine → ℕ → At → Member C → List Event → Member C → Type 0
LeadsTo s inputs n at x told next = (m : ℕ) → alone_from s inputs (n + m) (Some at) x ≡ told ++ alone_from s inputs m (Some (at_tick at (at.now.0 + n))) next

-- n ticks were made, and their lines were to be written.
pub record HasRun {C : Type 0} (s : Surroundings) (inputs : List InputLine) (n : ℕ) (at : At) (x next : Member C) (old new : Sent) : Type 0 where
  pub told : List Event
  pub leads : LeadsTo s inputs n at x told next
  pub sent : HasSent old new (text_of told)

-- Of k ticks, n were made.
abbrev pub HasRunSome : {C : Type 0} → Surroundings → List InputLine → ℕ → At → Member C → Member C → Sent → Sent → ℕ → Type 0
HasRunSome s inputs k at x next old new n = (n ≤ k) × HasRun s inputs n at x next old new
