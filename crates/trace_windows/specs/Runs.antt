-- The ticks of a run are counted while its lines are read.
use Rattle.std.specs.Prelude.{◌≡◌, ℕ, ◌-◌, ◌*◌, ◌≤◌, max, List, [], ◌∷◌}
use Rattle.apex_types.specs.declared.event.Event.{Event}
use Rattle.kernel_meaning.specs.Windows.{Schedule}
use Rattle.trace_windows.specs.Counts.{capped, ticks_for, with_more}
use Rattle.trace_windows.specs.Standings.{Standing, at_first, in_run}
use Rattle.trace_windows.specs.Uses.{ticks_used, use_from, use_of}
use Rattle.trace_windows.specs.declared.counted.Row.{Row}
use Rattle.trace_windows.specs.declared.usage.Use.{Use}

-- Each use gets `times` more ticks for each tick with this use from `from` on and before `until`.
abbrev pub AddsTimes : (times : ℕ) → (ℕ → Use) → (from until : ℕ) → List Row → List Row → Type 0
AddsTimes times used from until old new = (u : Use) → ticks_for u new ≡ with_more (times * ticks_used used u from (until - from)) (ticks_for u old)

abbrev pub Adds : (ℕ → Use) → (from until : ℕ) → List Row → List Row → Type 0
Adds used from until old new = (u : Use) → ticks_for u new ≡ with_more (ticks_used used u from (until - from)) (ticks_for u old)

-- the first tick that counts, and is not counted
abbrev pub first : ℕ → Standing → ℕ
first from s = max from s.now

-- The ticks before `until` are counted, from `first from s` on.
abbrev pub HasPassed : Schedule → (from : ℕ) → Standing → (until : ℕ) → List Row → List Row → Type 0
HasPassed schedule from s until old new = Adds (use_from schedule s) (first from s) until old new

-- the lines are in the order of their ticks, and none is of a tick before `from`
abbrev pub AreInOrder : (from : ℕ) → List Event → Type 0
AreInOrder from [] = Unit {0}
AreInOrder from (e ∷ es) = (from ≤ e.tick.0) × AreInOrder e.tick.0 es

-- the lines are in the order of their ticks, from `before` on, and none is of a tick later than `until`
abbrev pub AreBefore : (until before : ℕ) → List Event → Type 0
AreBefore until before [] = before ≤ until
AreBefore until before (e ∷ es) = (before ≤ in_run e.tick.0) × AreBefore until (in_run e.tick.0) es

-- Each use has just the ticks of the run with these lines, from one on and before the other.
abbrev pub AreSharesOf : Schedule → List (List ℕ) → (from until : ℕ) → List Event → List Row → Type 0
AreSharesOf schedule names from until events rows =
    (u : Use) → ticks_for u rows ≡ capped (ticks_used (use_of schedule (at_first names) events) u from (until - from))
