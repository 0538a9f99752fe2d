-- What is made of the text of a trace, event by event, and the report of a summary.
use Rattle.std.specs.Prelude.{◌≡◌, ℕ, true, List, [], ◌∷◌, Option, Some, None}
use Rattle.apex_types.specs.declared.event.Event.{Event}
use Rattle.apex_types.specs.declared.identity.Ticks.{Ticks}
use Rattle.kernel_meaning.specs.Windows.{Schedule}
use Rattle.trace_lines.specs.Filters.{is_viewed}
use Rattle.trace_lines.specs.declared.filter.Filter.{Filter}
use Rattle.trace_text.specs.Trace.{IsReadAs}
use Rattle.trace_view.specs.Reports.{IsReportOf}
use Rattle.trace_view.specs.declared.report.Report.{Report}

-- these events were taken, one after another
abbrev pub AreTaken : {T : Type 0} → (Event → T → T → Type 0) → List Event → T → T → Type 0
AreTaken takes [] old new = new ≡ old
AreTaken {T = T} takes (e ∷ es) old new = (mid : T) × takes e old mid × AreTaken takes es mid new

-- those of a text, if it is known
abbrev pub TakesAll : {T : Type 0} → (Event → T → T → Type 0) → Option (List ℕ) → T → T → Type 0
TakesAll takes None old new = Unit {0}
TakesAll takes (Some text) old new = (events : List Event) → IsReadAs text events → AreTaken takes events old new

-- ---- a summary

-- the filter lets all lines through
abbrev pub AreAllViewed : Filter → List Event → Type 0
AreAllViewed kept [] = Unit {0}
AreAllViewed kept (e ∷ es) = (is_viewed kept e ≡ true) × AreAllViewed kept es

-- The text is known, and is read as these lines, which the filter lets through.
abbrev pub AreLinesIn : Option (List ℕ) → Filter → List Event → Type 0
AreLinesIn None kept lines = ⊥
AreLinesIn (Some text) kept lines = IsReadAs text lines × AreAllViewed kept lines

-- the report is that of such lines
abbrev pub IsReportIn : Option (List ℕ) → Filter → Ticks → Option Ticks → Option (Schedule × List (List ℕ)) → Report → Type 0
IsReportIn text kept from to windows report = (lines : List Event) → AreLinesIn text kept lines → IsReportOf from to windows lines report
