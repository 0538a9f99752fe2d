-- The events of a text are taken one after another.
use Rattle.std.proofs.Common.{◌≡◌, ℕ, true, List, [], ◌∷◌, Option, Some, None, refl, sym, ap, subst}
use Rattle.std.specs.Io.KnownBytes.{IsAtEnd}
use Rattle.apex_types.specs.declared.event.Event.{Event}
use Rattle.apex_types.specs.declared.identity.Ticks.{Ticks}
use Rattle.kernel_meaning.specs.Windows.{Schedule}
use Rattle.trace_lines.specs.declared.filter.Filter.{Filter}
use Rattle.trace_text.specs.Stream.{NextIn}
use Rattle.trace_text.specs.Trace.{IsReadAs, IsReadFrom}
use Rattle.trace_text.proofs.Traces.{no_text, one_at_front}
use Rattle.trace_view.specs.Reports.{AreCounted, HasBegun, HasCounted, HasFinished}
use Rattle.trace_view.specs.declared.report.Report.{Report}
use Rattle.trace_view.specs.declared.summary.Summary.{Summary}
use Rattle.trace_view.proofs.Reported.{reported}
use Rattle.trace_lines.specs.Filters.{is_viewed}
use Rattle.view_command.specs.Summed.{AreAllViewed, AreTaken, IsReportIn, TakesAll}

-- ---- a text of which a part is left

-- the events that are left, and what becomes of them, are all that becomes of the whole text
abbrev pub WillTake : {T : Type 0} → (Event → T → T → Type 0) → (text left : Option (List ℕ)) → (before : ℕ) → (start now : T) → Type 0
WillTake takes None left before start now = Unit {0}
WillTake takes (Some text) None before start now = ⊥
WillTake {T = T} takes (Some text) (Some left) before start now =
    (events : List Event) → IsReadAs text events → (rest : List Event) × IsReadFrom before left rest × ((last : T) → AreTaken takes rest now last → AreTaken takes events start last)

pub will_start : {T : Type 0} (takes : Event → T → T → Type 0) (text left : Option (List ℕ)) (before : ℕ) (start : T) → left ≡ text → before ≡ 0 → WillTake takes text left before start start
will_start takes None left before start same first = tt
will_start takes (Some text) left before start same first = rw (same, first) (λ events read. (events, read, λ last h. h))

pub will_more : {T : Type 0} (takes : Event → T → T → Type 0) (text left rest : Option (List ℕ)) (before : ℕ) (e : Event) (tick : Ticks) (start now next : T) → WillTake takes text left before start now
    → NextIn before left e rest → tick ≡ e.tick → takes e now next → WillTake takes text rest tick.0 start next
will_more takes None left rest before e tick start now next will is noted taken = tt
will_more takes (Some text) None rest before e tick start now next will is noted taken = absurd will
will_more takes (Some text) (Some left) None before e tick start now next will is noted taken = absurd is
will_more {T = T} takes (Some text) (Some left) (Some rest) before e tick start now next will is noted taken = λ events read.
    let h = will events read in
    by events h.0 h.1 h.2
  where
    by : (events es : List Event) → IsReadFrom before left es → ((last : T) → AreTaken takes es now last → AreTaken takes events start last)
        → (rs : List Event) × IsReadFrom tick.0 rest rs × ((last : T) → AreTaken takes rs next last → AreTaken takes events start last)
    by events [] none then = absurd (no_text left e rest none is.parts)
    by events (x ∷ es) read then =
        let next_line = read.1 in
        let one = one_at_front left x e read.0 rest next_line.can is.can next_line.parts is.parts in (
          es,
          subst (λ (t : Ticks). IsReadFrom t.0 rest es) (sym noted) (subst (λ (v : Event). IsReadFrom v.tick.0 rest es) one.0 (subst (λ (r : List ℕ). IsReadFrom x.tick.0 r es) one.1 read.2)),
          λ last h. then last (next, subst (λ (v : Event). takes v now next) (sym one.0) taken, h),
        )

pub will_end : {T : Type 0} (takes : Event → T → T → Type 0) (text left : Option (List ℕ)) (before : ℕ) (start now : T) → WillTake takes text left before start now → IsAtEnd left → TakesAll takes text start now
will_end takes None left before start now will done = tt
will_end takes (Some text) None before start now will done = absurd will
will_end {T = T} takes (Some text) (Some left) before start now will done = λ events read.
    let h = will events read in
    by events h.0 h.1 h.2
  where
    by : (events es : List Event) → IsReadFrom before left es → ((last : T) → AreTaken takes es now last → AreTaken takes events start last) → AreTaken takes events start now
    by events [] none then = then now refl
    by events (x ∷ es) read then = let next_line = read.1 in absurd (no_text left x read.0 done next_line.parts)

-- ---- a part of what takes them

taken_in : {T U : Type 0} (takes : Event → T → T → Type 0) (of : U → T) (events : List Event) (old new : U) → AreTaken (λ e a b. takes e (of a) (of b)) events old new → AreTaken takes events (of old) (of new)
taken_in takes of [] old new is = ap of is
taken_in takes of (e ∷ es) old new h = (of h.0, h.1, taken_in takes of es h.0 new h.2)

pub takes_in : {T U : Type 0} (takes : Event → T → T → Type 0) (of : U → T) (text : Option (List ℕ)) (old new : U) → TakesAll (λ e a b. takes e (of a) (of b)) text old new → TakesAll takes text (of old) (of new)
takes_in takes of None old new h = tt
takes_in takes of (Some text) old new h = λ events read. taken_in takes of events old new (h events read)

-- ---- a summary

all_viewed : (kept : Filter) (events : List Event) (old new : Summary) → AreAllViewed kept events → AreTaken (λ e a b. is_viewed kept e ≡ true → HasCounted e a b) events old new → AreCounted events old new
all_viewed kept [] old new all is = is
all_viewed kept (e ∷ es) old new all h = (h.0, h.1 all.0, all_viewed kept es h.0 new all.1 h.2)

pub report_in : (text : Option (List ℕ)) (kept : Filter) (from : Ticks) (to : Option Ticks) (windows : Option (Schedule × List (List ℕ))) (first last : Summary) (report : Report)
    → HasBegun from to windows first → TakesAll (λ e a b. is_viewed kept e ≡ true → HasCounted e a b) text first last → HasFinished last report → IsReportIn text kept from to windows report
report_in None kept from to windows first last report begun taken finished = λ lines its. absurd its
report_in (Some text) kept from to windows first last report begun taken finished = λ lines its.
    reported from to windows lines first last report begun (all_viewed kept lines first last its.1 (taken lines its.0)) finished
