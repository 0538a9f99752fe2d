-- The choice of the process by ready numbers. A process takes a fresh and greater number when it
-- becomes ready and when it goes last. Of the ready processes, the highest priority is chosen;
-- among equals, the least number. The state of a partition stores no number: its list of ready
-- processes has their order.
use Rattle.std.specs.Prelude.{◌≡◌, ◌⊎◌, ◌<◌, ℕ, ◌==◌, Bool, true, false, List, [], ◌∷◌, if◌then◌else◌}
use Rattle.apex_types.specs.declared.codes.Mode.{Mode}
use Rattle.apex_types.specs.declared.codes.Mode.TheVariants as mode
use Rattle.apex_types.specs.declared.identity.Runner.{Runner}
use Rattle.apex_types.specs.declared.identity.Runner.TheVariants as runner
use Rattle.apex_types.specs.declared.process.Entry.{Entry}
use Rattle.apex_types.specs.declared.process.Lock.{Lock}
use Rattle.apex_types.specs.declared.process.Lock.TheVariants as lock
use Rattle.kernel_meaning.specs.Processes.{Processes, row_of}
use Rattle.kernel_meaning.specs.Partition.{is_ready}

-- one of the ready processes
abbrev pub IsAmong : Entry → List Entry → Type 0
IsAmong e [] = ⊥
IsAmong e (x ∷ xs) = (e ≡ x) ⊎ IsAmong e xs

-- a higher priority, or the same and a smaller ready number
abbrev pub IsBefore : (ℕ → ℕ) → Entry → Entry → Type 0
IsBefore number e f = (f.priority.0 < e.priority.0) ⊎ ((e.priority.0 ≡ f.priority.0) × (number e.process.0 < number f.process.0))

-- a ready process that no other ready process is before
abbrev pub IsFirst : (ℕ → ℕ) → List Entry → Runner → Type 0
IsFirst number ready p = (e : Entry) × IsAmong e ready × (runner.Process e.process ≡ p) × ((f : Entry) → IsAmong f ready → IsBefore number f e → ⊥)

-- in normal mode without a ready handler: the holder of the lock, otherwise a first ready process
abbrev pub PicksUnlessHeld : (ℕ → ℕ) → Lock → List Entry → Runner → Type 0
PicksUnlessHeld number lock.Free ready p = IsFirst number ready p
PicksUnlessHeld number (lock.Held level holder) ready p = p ≡ runner.Process holder

abbrev pub PicksInNormal : (ℕ → ℕ) → Bool → Lock → List Entry → Runner → Type 0
PicksInNormal number true held ready p = p ≡ runner.Handler
PicksInNormal number false held ready p = PicksUnlessHeld number held ready p

-- Who may run: INIT before the normal start; in normal mode the handler if it is ready, then the
-- holder of the lock, then the first ready process; in idle mode none of them.
abbrev pub Picks : (ℕ → ℕ) → Mode → Processes → Runner → Type 0
Picks number mode.Idle s p = ⊥
Picks number mode.Normal s p = PicksInNormal number (is_ready (row_of s runner.Handler)) s.lock s.ready p
Picks number _ s p = p ≡ runner.Init

-- ---- a list that has the order of its numbers

abbrev pub IsBeforeEach : (ℕ → ℕ) → Entry → List Entry → Type 0
IsBeforeEach number e [] = Unit {0}
IsBeforeEach number e (x ∷ xs) = IsBefore number e x × IsBeforeEach number e xs

abbrev pub IsOrdered : (ℕ → ℕ) → List Entry → Type 0
IsOrdered number [] = Unit {0}
IsOrdered number (e ∷ es) = IsBeforeEach number e es × IsOrdered number es

abbrev pub AreNumbersBelow : (ℕ → ℕ) → ℕ → List Entry → Type 0
AreNumbersBelow number next [] = Unit {0}
AreNumbersBelow number next (e ∷ es) = (number e.process.0 < next) × AreNumbersBelow number next es

-- Each is before those after it, and the next number and those above it are not given yet.
pub record IsNumbered (number : ℕ → ℕ) (next : ℕ) (ready : List Entry) : Type 0 where
  pub ordered : IsOrdered number ready
  pub below : AreNumbersBelow number next ready

-- p takes the number n
abbrev pub takes : (ℕ → ℕ) → ℕ → ℕ → ℕ → ℕ
takes number p n q = if p == q then n else number q
