-- Many ticks of the module, made together.
use Rattle.std.specs.Prelude.{◌≡◌, ◌⊎◌, ◌≤◌, ◌<◌, ℕ, zero, suc, ◌+◌, List, [], Option, Some, None, slice_get}
use Rattle.std.specs.Io.KnownBytes.{Appends}
use Rattle.apex_types.specs.Line.{text_of}
use Rattle.apex_types.specs.Line.{TakesBeginning}
use Rattle.apex_types.specs.declared.device.DeviceLine.{DeviceLine}
use Rattle.apex_types.specs.declared.event.Event.{Event}
use Rattle.module_meaning.specs.Module.{Plan, ports_from, still, ticks_owner}
use Rattle.kernel_meaning.specs.Partition.{Member, messages_to_move}
use Rattle.kernel_meaning.specs.Windows.{ended, owner, tick_from}
use Rattle.lone_partition.specs.Sent.{Sent, HasSent}
use Rattle.module_meaning.specs.Standing.{Elapsed, Standing, elapse, preceded_by}

-- n ticks write these lines and lead from one `Standing` to another, whatever ticks follow.
abbrev pub LeadsTo : {C : Type 0} → Plan → List DeviceLine → ℕ → Standing C → List Event → Standing C → Type 0
LeadsTo plan lines n s told next = (m : ℕ) → elapse plan lines (n + m) s ≡ preceded_by told (elapse plan lines m next)

-- n ticks were made, and their lines were to be written.
pub record HasPassed {C : Type 0} (plan : Plan) (lines : List DeviceLine) (n : ℕ) (s next : Standing C) (old new : Sent) : Type 0 where
  pub told : List Event
  pub leads : LeadsTo plan lines n s told next
  pub sent : HasSent old new (text_of told)

-- Of k ticks, n were made.
abbrev pub HasPassedSome : {C : Type 0} → Plan → List DeviceLine → ℕ → Standing C → Standing C → Sent → Sent → ℕ → Type 0
HasPassedSome plan lines k s next old new n = (n ≤ k) × (next.now ≡ s.now + n) × HasPassed plan lines n s next old new

-- Of k ticks, n were made, which have no device lines and write none.
abbrev pub HasSkippedSome : {C : Type 0} → Plan → ℕ → Standing C → Standing C → ℕ → Type 0
HasSkippedSome plan k s next n = (n ≤ k) × (next.now ≡ s.now + n) × (elapse plan [] n s ≡ still next)

-- In each of the next n ticks nothing happens, unless it has device lines.
abbrev pub AreQuiet : {C : Type 0} → Plan → Standing C → ℕ → Type 0
AreQuiet plan s n = (k : ℕ) → k ≤ n → elapse plan [] k s ≡ still (record { members = s.members; now = s.now + k; origin = s.origin })

-- n ticks were made, and their lines were written.
pub record HasRun {C : Type 0} (plan : Plan) (lines : List DeviceLine) (n : ℕ) (s next : Standing C) (old new : Option (List ℕ)) (before after : ℕ) : Type 0 where
  pub told : List Event
  pub leads : LeadsTo plan lines n s told next
  pub written : Appends old new (text_of told)
  pub quiet : after ≡ before

-- Within k ticks the sink failed once, and took a prefix of their lines.
pub record IsBrokenOff {C : Type 0} (plan : Plan) (lines : List DeviceLine) (k : ℕ) (s : Standing C) (old new : Option (List ℕ)) (before after : ℕ) : Type 0 where
  pub ticks : ℕ
  pub told : List Event
  pub next : Standing C
  pub within : ticks ≤ k
  pub leads : LeadsTo plan lines ticks s told next
  pub beginning : TakesBeginning old new (text_of told)
  pub failed : after ≡ before + 1

-- ---- edges at which nothing moves

-- No port of the partition with this number is a source.
abbrev pub HasNoSource : {C : Type 0} → List (Member C) → ℕ → Type 0
HasNoSource members p = (place : ℕ) → messages_to_move (slice_get (ports_from members p) place) ≡ None

-- No window ends at a tick, or one of the partition with this number, which has no source port.
abbrev pub EndsQuietly : {C : Type 0} → Plan → (origin : ℕ) → List (Member C) → ℕ → ℕ → Type 0
EndsQuietly plan origin members p t =
    (ended plan.schedule (tick_from origin t) ≡ None)
    ⊎ ((ended plan.schedule (tick_from origin t) ≡ Some p) × HasNoSource members p)

-- ---- ticks whose messages have moved already

-- the tick of the owner, and then n more
abbrev pub elapse_from : {C : Type 0} → Plan → List DeviceLine → ℕ → (now : ℕ) → List (Member C) → Option ℕ → Elapsed C
elapse_from plan lines n now members None = elapse plan lines (suc n) (record { members = members; now = now; origin = None })
elapse_from plan lines n now members (Some origin) =
    let a = ticks_owner (tick_from origin now) members (owner plan.schedule (tick_from origin now)) in
    preceded_by a.lines (elapse plan lines n (record { members = a.state; now = now + 1; origin = Some origin }))

-- n ticks without device lines in the first, whose messages have moved already
abbrev pub elapse_behind : {C : Type 0} → Plan → List DeviceLine → ℕ → Standing C → Elapsed C
elapse_behind plan lines zero s = still s
elapse_behind plan lines (suc n) s = elapse_from plan lines n s.now s.members s.origin

-- n such ticks write these lines and lead to this `Standing`, whatever ticks follow.
abbrev pub LeadsBehind : {C : Type 0} → Plan → List DeviceLine → ℕ → Standing C → List Event → Standing C → Type 0
LeadsBehind plan lines n s told next = (m : ℕ) → elapse_behind plan lines (n + m) s ≡ preceded_by told (elapse plan lines m next)

-- n such ticks were made, and their lines were to be written.
pub record HasPassedBehind {C : Type 0} (plan : Plan) (lines : List DeviceLine) (n : ℕ) (s next : Standing C) (old new : Sent) : Type 0 where
  pub told : List Event
  pub leads : LeadsBehind plan lines n s told next
  pub sent : HasSent old new (text_of told)

-- Of k such ticks, n were made, at least one.
abbrev pub HasPassedSomeBehind : {C : Type 0} → Plan → List DeviceLine → ℕ → Standing C → Standing C → Sent → Sent → ℕ → Type 0
HasPassedSomeBehind plan lines k s next old new n = (0 < n) × (n ≤ k) × (next.now ≡ s.now + n) × HasPassedBehind plan lines n s next old new
