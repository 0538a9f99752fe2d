-- The ticks in RUNNING that a summary counts for a runner of a run are those in which it runs.
use Rattle.std.proofs.Common.{◌≡◌, ◌<◌, ◌≤◌, ℕ, zero, suc, Bool, true, false, List, [], ◌∷◌, inl, inr, None, refl, sym, ap, ◌∙◌, subst, arith}
use Rattle.std.specs.Prelude.{◌+◌, ◌-◌, nat_lt, if◌then◌else◌}
use Rattle.std.proofs.lemmas.Bool.{cases_lt, le-ltb, ltb-true}
use Rattle.apex_types.specs.Limits.{MOST_TICKS}
use Rattle.apex_types.specs.Line.{subject_text}
use Rattle.apex_types.specs.declared.codes.ProcessState.{ProcessState}
use Rattle.apex_types.specs.declared.codes.ProcessState.TheVariants as state
use Rattle.apex_types.specs.declared.device.DeviceLine.{DeviceLine}
use Rattle.apex_types.specs.declared.event.Event.{Event}
use Rattle.apex_types.specs.declared.event.Subject.{Subject}
use Rattle.apex_types.specs.declared.event.Subject.TheVariants.{Init, Handler, Process}
use Rattle.module_meaning.specs.Module.{Module, trace}
use Rattle.trace_stays.specs.Stays.{span}
use Rattle.trace_stays.specs.Traces.{stays_in}
use Rattle.trace_stays.specs.declared.span.Span.{Span}
use Rattle.trace_stays.specs.declared.stay.Stay.{Stay}
use Rattle.trace_view.specs.Counting.{ticks_in}
use Rattle.trace_view.specs.Processes as processes
use Rattle.trace_view.specs.Turns.{ticks_if, ticks_in_state}
use Rattle.trace_view.specs.Whole.{process_in}
use Rattle.trace_windows.specs.Runs.{AreInOrder}
use Rattle.trace_windows.specs.Uses.{one_if}
use Rattle.view_laws.specs.Counted.{AreBeforeTick, running_counted}
use Rattle.view_laws.specs.Reading.{up_to}
use Rattle.view_laws.specs.Shown.{HasOwnWord, HaveNames}
use Rattle.view_laws.specs.Ticks.{running_in, ticks_when}
use Rattle.view_laws.proofs.Lines.{AreUpTo, up_to_are}
use Rattle.view_laws.proofs.Tallies.{all_counted}
use Rattle.view_laws.proofs.Run.{run_order, run_up_to}
use Rattle.view_laws.proofs.Sums.{few_when, stays_ticks, sum_of, sum_same, sum_when}

-- ---- a window without ticks

none_if : (s : ProcessState) (n : ℕ) → n ≡ 0 → ticks_if state.Running s n ≡ 0
none_if state.Running n e = e
none_if state.Dormant n e = refl
none_if state.Ready n e = refl
none_if state.Waiting n e = refl

empty_window : (window : Span) (stays : List Stay) → window.until.0 ≤ window.from.0 → ticks_in_state state.Running window stays ≡ 0
empty_window window [] l = refl
empty_window window (s ∷ ss) l =
    let k = empty_window window ss l in
    let a = none_if s.state (ticks_in window s.span) (omega (arith, l)) in
    omega (arith, k, a)

-- from one tick on and before the other
window_ticks : (from until : ℕ) (stays : List Stay) → ticks_in_state state.Running (span from until) stays ≡ sum_of (λ t. running_in t stays) from (until - from)
window_ticks from until stays = elim (cases_lt until from) [
  | inl none ↦
      let is : until - from ≡ 0 = omega (arith, none) in
      empty_window (span from until) stays (omega (arith, none)) ∙ sym (ap (sum_of (λ t. running_in t stays) from) is)
  | inr some ↦
      let is : until ≡ from + (until - from) = omega (arith, some) in
      ap (λ (u : ℕ). ticks_in_state state.Running (span from u) stays) is ∙ sym (stays_ticks stays from (until - from))
]

-- ---- lines that are read

-- all lines are of ticks before the end
module _ (window : Span) (lines : List Event) (name : List ℕ) (who : Subject) (runs : ℕ → Bool) (from until : ℕ) (begin : window.from.0 ≡ from) (close : until ≤ window.until.0) (few : until ≤ MOST_TICKS) (early : AreBeforeTick until lines)
    (shown : (t : ℕ) → t < until → running_in t (stays_in lines until name (subject_text who) None) ≡ one_if (runs t)) where
  abbrev stays : List Stay
  stays = stays_in lines until name (subject_text who) None

  sums : ticks_in_state state.Running (span from until) stays ≡ ticks_when runs from (until - from)
  sums =
      window_ticks from until stays
      ∙ sum_same (λ t. running_in t stays) (λ t. one_if (runs t)) from (until - from) (λ i l. shown (from + i) (omega (arith, l)))
      ∙ sum_when runs from (until - from)

  pub counted_runs : running_counted window (span from until) lines name who ≡ ticks_when runs from (until - from)
  counted_runs =
      let a = all_counted state.Running window (span from until) begin close (omega (arith, few)) name (subject_text who) lines processes.no_process early tt in
      let b = sums in
      let c = few_when runs from (until - from) in
      omega (arith, a, b, c, few)

-- ---- lines at the end and behind it are not read

unread : (window : Span) (lines : List Event) (name word : List ℕ) (p : processes.Process) → AreInOrder window.until.0 lines → process_in window lines name word p ≡ p
unread window [] name word p order = refl
unread window (e ∷ es) name word p order =
    ap (λ (b : Bool). process_in window es name word (if b then processes.process_behind window e name word p else p)) (le-ltb e.tick.0 window.until.0 order.0)
    ∙ unread window es name word p (weaken window.until.0 e.tick.0 es order.0 order.1)
  where
    weaken : (a b : ℕ) (es : List Event) → a ≤ b → AreInOrder b es → AreInOrder a es
    weaken a b [] l h = tt
    weaken a b (f ∷ fs) l h = let k = h.0 in (omega (arith, k, l), h.1)

read_up_to : (window : Span) (t from : ℕ) (lines : List Event) (name word : List ℕ) (p : processes.Process) → window.until.0 ≡ suc t → AreInOrder from lines → process_in window lines name word p ≡ process_in window (up_to t lines) name word p
read_up_to window t from [] name word p is order = refl
read_up_to window t from (e ∷ es) name word p is order = by_test (nat_lt t e.tick.0) refl (read_up_to window t e.tick.0 es name word (processes.process_after window e name word p) is order.1)
  where
    by_test : (b : Bool) → nat_lt t e.tick.0 ≡ b → process_in window es name word (processes.process_after window e name word p) ≡ process_in window (up_to t es) name word (processes.process_after window e name word p)
        → process_in window (e ∷ es) name word p ≡ process_in window (if b then [] else e ∷ up_to t es) name word p
    by_test true f rest = let a = ltb-true t e.tick.0 f in unread window (e ∷ es) name word p (omega (arith, a, is), order.1)
    by_test false f rest = rest

pub before_tick : (t : ℕ) (lines : List Event) → AreUpTo t lines → AreBeforeTick (suc t) lines
before_tick t [] h = tt
before_tick t (e ∷ es) h = let a = h.0 in (omega (arith, a), before_tick t es h.1)

names_up_to : (t : ℕ) (lines : List Event) → HaveNames lines → HaveNames (up_to t lines)
names_up_to t [] h = tt
names_up_to t (e ∷ es) h = by_test (nat_lt t e.tick.0) (names_up_to t es h.1)
  where
    by_test : (b : Bool) → HaveNames (up_to t es) → HaveNames (if b then [] else e ∷ up_to t es)
    by_test true k = tt
    by_test false k = (h.0, k)

pub word_up_to : (t : ℕ) (lines : List Event) (who : Subject) → HasOwnWord lines who → HasOwnWord (up_to t lines) who
word_up_to t lines Init h = names_up_to t lines h
word_up_to t lines Handler h = names_up_to t lines h
word_up_to t lines (Process own) h = h

-- ---- a run of which the ticks before one are shown

module _ {C : Type 0} (m : Module C) (devices : List DeviceLine) (n : ℕ) where
  pub run_part : (closing : Span) (u : ℕ) (name word : List ℕ) → closing.until.0 ≡ u → u ≤ n → process_in closing (trace m devices n) name word processes.no_process ≡ process_in closing (trace m devices u) name word processes.no_process
  run_part closing zero name word is l = unread closing (trace m devices n) name word processes.no_process (subst (λ (u : ℕ). AreInOrder u (trace m devices n)) (sym is) (run_order m devices n))
  run_part closing (suc t) name word is l =
      read_up_to closing t 0 (trace m devices n) name word processes.no_process is (run_order m devices n)
      ∙ ap (λ (lines : List Event). process_in closing lines name word processes.no_process) (run_up_to m devices n t (omega (arith, l)))

  pub run_early : (u : ℕ) → u ≤ n → AreBeforeTick u (trace m devices u)
  run_early zero l = tt
  run_early (suc t) l = subst (AreBeforeTick (suc t)) (run_up_to m devices n t (omega (arith, l))) (before_tick t (up_to t (trace m devices n)) (up_to_are t (trace m devices n)))

  pub run_word : (u : ℕ) (who : Subject) → u ≤ n → HasOwnWord (trace m devices n) who → HasOwnWord (trace m devices u) who
  run_word zero who l own = first who own
    where
      first : (who : Subject) → HasOwnWord (trace m devices n) who → HasOwnWord [] who
      first Init h = tt
      first Handler h = tt
      first (Process own) h = h
  run_word (suc t) who l own = subst (λ (lines : List Event). HasOwnWord lines who) (run_up_to m devices n t (omega (arith, l))) (word_up_to t (trace m devices n) who own)

  module _ (name : List ℕ) (who : Subject) (runs : ℕ → Bool) (few : n ≤ MOST_TICKS) (own : HasOwnWord (trace m devices n) who)
      (shown : (k t : ℕ) → k ≤ MOST_TICKS → t < k → HasOwnWord (trace m devices k) who → running_in t (stays_in (trace m devices k) k name (subject_text who) None) ≡ one_if (runs t)) where
    pub run_counted : (from until : ℕ) → until ≤ n → running_counted (span from until) (span from until) (trace m devices n) name who ≡ ticks_when runs from (until - from)
    run_counted from until l =
        let enough : until ≤ MOST_TICKS = omega (arith, l, few) in
        ap (λ (p : processes.Process). (processes.process_ended (span from until) p).tally.ticks.running) (run_part (span from until) until name (subject_text who) refl l)
        ∙ counted_runs (span from until) (trace m devices until) name who runs from until refl (omega arith) enough (run_early until l) (λ t before. shown until t enough before (run_word until who l own))
