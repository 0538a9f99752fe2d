-- The picture of the lines of a run shows what the kernel did in it.
use Rattle.std.proofs.Common.{◌≡◌, ◌<◌, ◌≤◌, ℕ, zero, suc, max, min, Bool, true, false, List, [], ◌∷◌, ◌++◌, Option, Some, None, refl, sym, ap, ◌∙◌, subst, arith}
use Rattle.std.specs.Prelude.{◌+◌, ◌-◌, ◌^◌, ◌==◌, ◌&&◌, is_some, nat_le, nat_lt, if◌then◌else◌}
use Rattle.std.proofs.lemmas.Option.{none-some, same_Some}
use Rattle.std.proofs.lemmas.Bool.Decides.{nat_tests}
use Rattle.apex_types.specs.Limits.{MOST_TICKS}
use Rattle.apex_types.specs.Line.{subject_text}
use Rattle.apex_types.specs.declared.codes.Mode.{Mode}
use Rattle.apex_types.specs.declared.codes.ProcessState.{ProcessState}
use Rattle.apex_types.specs.declared.device.DeviceLine.{DeviceLine}
use Rattle.apex_types.specs.declared.event.Event.{Event}
use Rattle.apex_types.specs.declared.event.Subject.{Subject}
use Rattle.apex_types.specs.declared.identity.Ticks.{Ticks}
use Rattle.kernel_laws.specs.History.{members_after}
use Rattle.kernel_meaning.specs.Windows.{Schedule}
use Rattle.machine_meaning.specs.Image.{Image}
use Rattle.machine_meaning.specs.ImageLimits.{IsLawful}
use Rattle.machine_meaning.specs.MachineMeaning.{machine_module, machine_trace}
use Rattle.module_meaning.specs.Accepted.{IsModule}
use Rattle.module_meaning.specs.Module.{Module, trace}
use Rattle.module_meaning.specs.SourceMeaning.{source_module, source_trace}
use Rattle.module_meaning.specs.Table.{Table, at_number}
use Rattle.pal_meaning.specs.Program.{Program}
use Rattle.state_laws.specs.Spending.{owner_in, worker}
use Rattle.state_laws.specs.Told.{is_it}
use Rattle.trace_picture.specs.Drawn.{IsDrawnOf, lines_before, modes_drawn, modes_shown, shown_after, stays_drawn, stays_shown, unless_none}
use Rattle.trace_picture.specs.declared.drawing.Drawing.{Drawing}
use Rattle.trace_stays.specs.Shown.{is_before_end, open_ticks, shown_from, shown_ticks, with_read, with_read_if}
use Rattle.trace_stays.specs.Stays.{common, span, tick, ticks_of}
use Rattle.trace_stays.specs.Traces.{modes_in, stays_in}
use Rattle.trace_stays.specs.declared.shown.ShownTicks.{ShownTicks}
use Rattle.trace_stays.specs.declared.span.Span.{Span}
use Rattle.trace_stays.specs.declared.stay.ModeStay.{ModeStay}
use Rattle.trace_stays.specs.declared.stay.Stay.{Stay}
use Rattle.trace_view.specs.Reports.{lines_read}
use Rattle.trace_windows.specs.Frames as frames
use Rattle.trace_windows.specs.Uses.{one_if}
use Rattle.trace_windows.specs.Whole.{AreWindowsIn, owner_at}
use Rattle.trace_windows.specs.declared.windows.Windows.{Windows}
use Rattle.view_laws.specs.Drawn.{AreNamed, DrawsMachines, DrawsModules, DrawsRun, at_work_in}
use Rattle.view_laws.specs.Modes.{is_in_mode, is_same_mode, mode_in}
use Rattle.view_laws.specs.Reports.{AreWindowsOf}
use Rattle.view_laws.specs.Shown.{HasOwnWord}
use Rattle.view_laws.specs.Spent.{names_of_image, names_of_table}
use Rattle.view_laws.specs.Ticks.{current_in, ends_in_state, has_tick, is_owned, is_resting, is_running, is_same_state, rests_in_state, running_in, runs_if, runs_in_tick, state_in, state_in_run, works_in_tick}
use Rattle.view_laws.proofs.Closing.{read_none, read_up_to}
use Rattle.view_laws.proofs.Counted.{run_word}
use Rattle.view_laws.proofs.OfRuns.{run_owners}
use Rattle.view_laws.proofs.OfTicks.{ShowTicks, image_ticks, module_ticks}
use Rattle.view_laws.proofs.Run.{run_order, run_up_to}

-- ---- a tick that is shown is in a stay just if it is in what is shown of the stay

later_too : (a c t : ℕ) → c ≤ t → nat_le (max a c) t ≡ nat_le a t
later_too a c t l = grind (arith, nat_tests)

earlier_too : (b d t : ℕ) → t < d → nat_lt t (min b d) ≡ nat_lt t b
earlier_too b d t l = grind (arith, nat_tests)

shown_too : (t : ℕ) (s shown : Span) → shown.from.0 ≤ t → t < shown.until.0 → has_tick t (common s shown) ≡ has_tick t s
shown_too t s shown begun soon =
    ap (λ (b : Bool). b && nat_lt t (min s.until.0 shown.until.0)) (later_too s.from.0 shown.from.0 t begun)
    ∙ ap (λ (b : Bool). nat_le s.from.0 t && b) (earlier_too s.until.0 shown.until.0 t soon)

none_there : (t : ℕ) (s : Span) → (ticks_of s == 0) ≡ true → has_tick t s ≡ false
none_there t s none = grind (arith, nat_tests)

-- the stay counts once, shown or not
module _ (t : ℕ) (shown : Span) (begun : shown.from.0 ≤ t) (soon : t < shown.until.0) where
  piece : (none is : Bool) (s : Span) → (ticks_of (common s shown) == 0) ≡ none → one_if (is && has_tick t s) ≡ (if none then 0 else one_if (is && has_tick t (common s shown)))
  piece true true s e = ap one_if (sym (shown_too t s shown begun soon) ∙ none_there t (common s shown) e)
  piece true false s e = refl
  piece false is s e = ap (λ (b : Bool). one_if (is && b)) (sym (shown_too t s shown begun soon))

  running_shown : (ss : List Stay) → running_in t (stays_shown shown ss) ≡ running_in t ss
  running_shown [] = refl
  running_shown (s ∷ ss) = by_test (ticks_of (common s.span shown) == 0) refl (running_shown ss)
    where
      by_test : (b : Bool) → (ticks_of (common s.span shown) == 0) ≡ b → running_in t (stays_shown shown ss) ≡ running_in t ss → running_in t ((if b then [] else record s { span = common s.span shown } ∷ []) ++ stays_shown shown ss) ≡ one_if (is_running s.state && has_tick t s.span) + running_in t ss
      by_test true e r = let p = piece true (is_running s.state) s.span e in omega (arith, p, r)
      by_test false e r = let p = piece false (is_running s.state) s.span e in omega (arith, p, r)

  state_shown : (wanted : ProcessState) (ss : List Stay) → state_in wanted t (stays_shown shown ss) ≡ state_in wanted t ss
  state_shown wanted [] = refl
  state_shown wanted (s ∷ ss) = by_test (ticks_of (common s.span shown) == 0) refl (state_shown wanted ss)
    where
      by_test : (b : Bool) → (ticks_of (common s.span shown) == 0) ≡ b → state_in wanted t (stays_shown shown ss) ≡ state_in wanted t ss
          → state_in wanted t ((if b then [] else record s { span = common s.span shown } ∷ []) ++ stays_shown shown ss) ≡ one_if (is_same_state wanted s.state && has_tick t s.span) + state_in wanted t ss
      by_test true e r = let p = piece true (is_same_state wanted s.state) s.span e in omega (arith, p, r)
      by_test false e r = let p = piece false (is_same_state wanted s.state) s.span e in omega (arith, p, r)

  mode_shown : (mode : Mode) (ss : List ModeStay) → mode_in mode t (modes_shown shown ss) ≡ mode_in mode t ss
  mode_shown mode [] = refl
  mode_shown mode (s ∷ ss) = by_test (ticks_of (common s.span shown) == 0) refl (mode_shown mode ss)
    where
      by_test : (b : Bool) → (ticks_of (common s.span shown) == 0) ≡ b → mode_in mode t (modes_shown shown ss) ≡ mode_in mode t ss
          → mode_in mode t ((if b then [] else record s { span = common s.span shown } ∷ []) ++ modes_shown shown ss) ≡ one_if (is_same_mode mode s.mode && has_tick t s.span) + mode_in mode t ss
      by_test true e r = let p = piece true (is_same_mode mode s.mode) s.span e in omega (arith, p, r)
      by_test false e r = let p = piece false (is_same_mode mode s.mode) s.span e in omega (arith, p, r)

-- ---- the ticks that are shown, and the lines before their end

shown_so : (lines : List Event) (s : ShownTicks) → ((shown_after lines s).from ≡ s.from) × ((shown_after lines s).to ≡ s.to)
shown_so [] s = (refl, refl)
shown_so (e ∷ es) s =
    let rest = shown_so es (with_read e.tick.0 s) in
    let one = by_test (is_before_end s.to e.tick.0) in
    (rest.0 ∙ one.0, rest.1 ∙ one.1)
  where
    by_test : (b : Bool) → ((with_read_if b e.tick.0 s).from ≡ s.from) × ((with_read_if b e.tick.0 s).to ≡ s.to)
    by_test true = (refl, refl)
    by_test false = (refl, refl)

all_before : (lines : List Event) → lines_before None lines ≡ lines
all_before [] = refl
all_before (e ∷ es) = ap (λ (ls : List Event). e ∷ ls) (all_before es)

as_read : (to : Ticks) (lines : List Event) → lines_before (Some to) lines ≡ lines_read (span 0 to.0) lines
as_read to [] = refl
as_read to (e ∷ es) = ap (λ (ls : List Event). if is_before_end (Some to) e.tick.0 then e ∷ ls else ls) (as_read to es)

-- in its own window a runner runs just if it spends the tick
at_work_by : (is : Bool) (who : Subject) (works current : Option Subject) (n : ℕ) → n ≡ one_if (runs_if is who works current) → (if is then n else 0) ≡ one_if (is && is_it who works)
at_work_by true who works current n e = e
at_work_by false who works current n e = refl

module _ {C : Type 0} (m : Module C) (devices : List DeviceLine) (n : ℕ) (few : n ≤ MOST_TICKS) (names : List (List ℕ)) (shows : ShowTicks m devices names) where
  abbrev lines : List Event
  lines = trace m devices n

  -- the lines before the end are those of a run of so many ticks
  run_read : (to : ℕ) → to ≤ n → lines_before (Some (tick to)) lines ≡ trace m devices to
  run_read zero l = as_read (tick 0) lines ∙ read_none (span 0 0) lines refl (run_order m devices n)
  run_read (suc t) l = as_read (tick (suc t)) lines ∙ (read_up_to (span 0 (suc t)) t 0 lines refl (run_order m devices n) ∙ run_up_to m devices n t (omega (arith, l)))

  module _ (from : Ticks) (to : Option Ticks) (windows : Option (Schedule × List (List ℕ))) (d : Drawing) (given : AreWindowsOf m.plan.schedule names windows)
      (is : IsDrawnOf from to windows lines d) (inside : d.axis.span.until.0 ≤ n) where
    abbrev until : ℕ
    until = d.axis.span.until.0

    abbrev seen : Span
    seen = open_ticks (shown_from from to)

    -- where the picture ends
    ends : (last : ℕ) × (until ≡ max from.0 (elim to [ None ↦ last | Some end ↦ end.0 ]))
    ends =
        let s = shown_after lines (shown_from from to) in
        let so = shown_so lines (shown_from from to) in (
          s.behind.0,
          ap (λ (x : Span). x.until.0) is.span
              ∙ (ap (λ (f : Ticks). max f.0 (by_end s.to s.behind.0)) so.0
              ∙ (ap (λ (o : Option Ticks). max from.0 (by_end o s.behind.0)) so.1 ∙ ap (max from.0) (same_end to s.behind.0))),
        )
      where
        by_end : Option Ticks → ℕ → ℕ
        by_end None last = last
        by_end (Some end) last = end.0

        same_end : (o : Option Ticks) (last : ℕ) → by_end o last ≡ elim o [ None ↦ last | Some end ↦ end.0 ]
        same_end None last = refl
        same_end (Some end) last = refl

    -- a tick that is shown is one of a run whose lines are read
    record IsOfRun (t : ℕ) : Type 0 where
      ran : ℕ
      read : lines_before to lines ≡ trace m devices ran
      most : ran ≤ n
      before : t < ran
      begun : seen.from.0 ≤ t
      soon : t < seen.until.0

    of_run : (t : ℕ) → from.0 ≤ t → t < until → IsOfRun t
    of_run t later early = by_end to refl
      where
        by_end : (o : Option Ticks) → to ≡ o → IsOfRun t
        by_end None none =
            record {
              ran = n;
              read = ap (λ (o : Option Ticks). lines_before o lines) none ∙ all_before lines;
              most = omega arith;
              before = omega (arith, early, inside);
              begun = later;
              soon = subst (λ (o : Option Ticks). t < (open_ticks (shown_from from o)).until.0) (sym none) (omega (arith, early, inside, few));
            }
        by_end (Some end) some =
            let u = ends.1 ∙ ap (λ (o : Option Ticks). max from.0 (elim o [ None ↦ ends.0 | Some e ↦ e.0 ])) some in
            record {
              ran = end.0;
              read = ap (λ (o : Option Ticks). lines_before o lines) some ∙ run_read end.0 (omega (arith, u, inside));
              most = omega (arith, u, inside);
              before = omega (arith, u, later, early);
              begun = later;
              soon = subst (λ (o : Option Ticks). t < (open_ticks (shown_from from o)).until.0) (sym some) (omega (arith, u, later, early));
            }

    enough : (t : ℕ) (r : IsOfRun t) → r.ran ≤ MOST_TICKS
    enough t r = let l = r.most in omega (arith, l, few)

    stays_so : (t : ℕ) (r : IsOfRun t) (name word : List ℕ) → stays_drawn name word d ≡ stays_shown seen (stays_in (trace m devices r.ran) until name word None)
    stays_so t r name word = is.states name word ∙ ap (λ (ls : List Event). stays_shown seen (stays_in ls until name word None)) r.read

    runs_there : (p t : ℕ) (name : List ℕ) (who : Subject) → at_number names p ≡ Some name → HasOwnWord lines who → from.0 ≤ t → t < until
        → running_in t (stays_drawn name (subject_text who) d) ≡ one_if (runs_in_tick m devices p who t)
    runs_there p t name who here own later early =
        let r = of_run t later early in
        ap (running_in t) (stays_so t r name (subject_text who))
        ∙ (running_shown t seen r.begun r.soon (stays_in (trace m devices r.ran) until name (subject_text who) None)
        ∙ shows.runs r.ran until t p name who here (enough t r) r.before early (run_word m devices n r.ran who r.most own))

    states_there : (wanted : ProcessState) (t : ℕ) (name : List ℕ) (who : Subject) (r : IsOfRun t)
        → state_in wanted t (stays_drawn name (subject_text who) d) ≡ state_in wanted t (stays_in (trace m devices r.ran) until name (subject_text who) None)
    states_there wanted t name who r =
        ap (state_in wanted t) (stays_so t r name (subject_text who)) ∙ state_shown t seen r.begun r.soon wanted (stays_in (trace m devices r.ran) until name (subject_text who) None)

    -- the windows
    owners_so : (known : Option (Schedule × List (List ℕ))) (o : Option Windows) → AreWindowsOf m.plan.schedule names known → AreWindowsIn known from.0 until lines o
        → AreNamed names o × ((w : Windows) (t : ℕ) → o ≡ Some w → from.0 ≤ t → t < until → owner_at t w.stretches.items ≡ owner_in m devices t)
    owners_so None None g h = (tt, λ w t e later early. absurd (none-some w e))
    owners_so None (Some v) g h = absurd h
    owners_so (Some k) None g h = absurd h
    owners_so (Some k) (Some v) g h = (
      h.named ∙ g.1,
      λ w t e later early.
          subst (λ (x : Windows). owner_at t x.stretches.items ≡ owner_in m devices t) (same_Some v w e)
          (h.owners (run_order m devices n) t later early (omega (arith, early, inside, few))
          ∙ (ap (λ (s : Schedule). frames.owner_in s frames.at_first lines t) g.0 ∙ run_owners m devices n t (omega (arith, early, inside)))),
    )

    owners_there : AreNamed names d.windows × ((w : Windows) (t : ℕ) → d.windows ≡ Some w → from.0 ≤ t → t < until → owner_at t w.stretches.items ≡ owner_in m devices t)
    owners_there = owners_so windows d.windows given is.windows

    pub drawing_shows : DrawsRun m devices lines names from.0 until d
    drawing_shows = record {
      running = runs_there;
      others = λ p t name who wanted here own later early there other.
          let r = of_run t later early in
          let e = states_there wanted t name who r in
          let l = shows.most r.ran until t p name who wanted here (enough t r) r.before early (run_word m devices n r.ran who r.most own) there other in
          omega (arith, e, l);
      resting = λ p t name who wanted here own later early there rests.
          let r = of_run t later early in
          let e = states_there wanted t name who r in
          let l = shows.least r.ran until t p name who wanted here (enough t r) r.before early (run_word m devices n r.ran who r.most own) there rests in
          omega (arith, e, l);
      modes = λ p t name mode here later early.
          let r = of_run t later early in
          ap (mode_in mode t) (is.modes name ∙ ap (λ (ls : List Event). modes_shown seen (modes_in ls until name None)) r.read)
          ∙ (mode_shown t seen r.begun r.soon mode (modes_in (trace m devices r.ran) until name None) ∙ shows.mode_is r.ran until t p name mode here r.before early);
      named = owners_there.0;
      owners = owners_there.1;
      at_work = λ w p t name who drawn here own later early.
          ap (λ (o : Option ℕ). if is_owned p o then running_in t (stays_drawn name (subject_text who) d) else 0) (owners_there.1 w t drawn later early)
          ∙ at_work_by (is_owned p (owner_in m devices t)) who (worker m devices t) (current_in (at_number (members_after m devices (suc t)) p)) (running_in t (stays_drawn name (subject_text who) d))
          (runs_there p t name who here own later early);
    }

-- ---- a picture of lines, if they are those of a run

pub machines_drawn : (AreIts : List Event → Type 0) (from : Ticks) (to : Option Ticks) (windows : Option (Schedule × List (List ℕ))) (d : Drawing)
    → ((lines : List Event) → AreIts lines → IsDrawnOf from to windows lines d) → DrawsMachines AreIts from windows d
machines_drawn AreIts from to windows d is = λ image devices n lawful few given its inside.
    drawing_shows (machine_module image) devices n few (names_of_image image) (image_ticks image devices lawful) from to windows d given (is (machine_trace image devices n) its) inside

pub modules_drawn : (AreIts : List Event → Type 0) (from : Ticks) (to : Option Ticks) (windows : Option (Schedule × List (List ℕ))) (d : Drawing)
    → ((lines : List Event) → AreIts lines → IsDrawnOf from to windows lines d) → DrawsModules AreIts from windows d
modules_drawn AreIts from to windows d is = λ table sources t programs devices n accepted few given its inside.
    drawing_shows (source_module t programs) devices n few (names_of_table t) (module_ticks table sources t programs devices accepted) from to windows d given (is (source_trace t programs devices n) its) inside
