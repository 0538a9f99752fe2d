-- A timer list that is exact: it has the tick of each process that has one, and no other.
use Rattle.std.specs.Prelude.{◌≡◌, ◌≤◌, ℕ, ◌==◌, Bool, false, List, [], ◌∷◌, Option, Some, None, if◌then◌else◌, nat_le}
use Rattle.std.specs.Int.{bit_at}
use Rattle.apex_types.specs.declared.identity.ProcessIndex.{ProcessIndex}
use Rattle.apex_types.specs.declared.identity.Ticks.{Ticks}
use Rattle.links.specs.declared.dues.DueEntry.{DueEntry}
use Rattle.links.specs.DueOrder.{behind_earlier, due_at, without}

-- the tick of p in the list
abbrev pub tick_in : ℕ → List DueEntry → Option ℕ
tick_in p [] = None
tick_in p (e ∷ es) = if p == e.process.0 then Some e.tick.0 else tick_in p es

-- the list has these ticks, and no others
abbrev pub IsExact : (ℕ → Option ℕ) → List DueEntry → Type 0
IsExact ticks dues = (p : ℕ) → tick_in p dues ≡ ticks p

-- p has another tick, or none
abbrev pub ticks_with : ℕ → Option ℕ → (ℕ → Option ℕ) → ℕ → Option ℕ
ticks_with p tick ticks q = if q == p then tick else ticks q

abbrev pub number_of : Option Ticks → Option ℕ
number_of None = None
number_of (Some tick) = Some tick.0

-- p is in the list with this tick only, or not at all
abbrev pub set_timer : ProcessIndex → Option Ticks → List DueEntry → List DueEntry
set_timer p None dues = without p.0 dues
set_timer p (Some tick) dues = behind_earlier (due_at p tick) (without p.0 dues)

-- the least of all these ticks; None if there are no ticks
abbrev pub IsLeastTick : (ℕ → Option ℕ) → Option ℕ → Type 0
IsLeastTick ticks None = (p : ℕ) → ticks p ≡ None
IsLeastTick ticks (Some tick) = ((p : ℕ) × (ticks p ≡ Some tick)) × ((q t : ℕ) → ticks q ≡ Some t → tick ≤ t)

-- the earlier of two ticks; if only one is given, that one
abbrev pub earlier : Option ℕ → Option ℕ → Option ℕ
earlier None other = other
earlier (Some one) None = Some one
earlier (Some one) (Some other) = if nat_le one other then Some one else Some other

-- the least due time or deadline of all, or none
pub record IsNextDue (dues deadlines : ℕ → Option ℕ) (tick : Option ℕ) : Type 0 where
  pub due : Option ℕ
  pub deadline : Option ℕ
  pub least : IsLeastTick dues due
  pub earliest : IsLeastTick deadlines deadline
  pub is : tick ≡ earlier due deadline

-- ---- the processes that are due

-- whether there is a tick, and it is not later than now
abbrev pub has_come : ℕ → Option ℕ → Bool
has_come now None = false
has_come now (Some tick) = nat_le tick now

abbrev pub one_if_come : ℕ → Option ℕ → ℕ
one_if_come now tick = if has_come now tick then 1 else 0

-- the bits of the processes in the list whose tick has come, and no others
abbrev pub HasThoseDue : ℕ → List DueEntry → ℕ → Type 0
HasThoseDue now dues mask = (p : ℕ) → bit_at mask p ≡ one_if_come now (tick_in p dues)

-- the bits of the processes whose due time or deadline has come, and no others
abbrev pub IsDueMask : ℕ → (ℕ → Option ℕ) → (ℕ → Option ℕ) → ℕ → Type 0
IsDueMask now due deadline mask = (p : ℕ) → bit_at mask p ≡ (if has_come now (due p) then 1 else one_if_come now (deadline p))
