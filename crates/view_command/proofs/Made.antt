-- A dump is made of the lines of a text, one after another.
use Rattle.std.proofs.Common.{◌≡◌, ◌≤◌, ℕ, max, min, Bool, true, false, List, [], ◌∷◌, Option, Some, None, refl, sym, ap, subst, ◌∙◌, arith}
use Rattle.apex_types.specs.Limits.{MOST_TICKS}
use Rattle.apex_types.specs.declared.event.Event.{Event}
use Rattle.apex_types.specs.declared.identity.Ticks.{Ticks}
use Rattle.kernel_meaning.specs.Windows.{Schedule}
use Rattle.trace_lines.specs.declared.filter.Filter.{Filter}
use Rattle.trace_picture.specs.Drawn.{shown_after}
use Rattle.trace_stays.specs.Shown.{end_of, is_before_end, shown_from, shown_ticks, with_read, with_read_if}
use Rattle.trace_stays.specs.declared.shown.ShownTicks.{ShownTicks}
use Rattle.trace_windows.specs.Whole.{HaveBegun, HaveReadAll, end_in_run}
use Rattle.trace_windows.proofs.Whole.{windows_of_all}
use Rattle.wave_dump.specs.declared.dump.Dump.{Dump}
use Rattle.view_command.specs.Dumping.{HasFound, IsDumpIn, IsMadeOf}
use Rattle.view_command.specs.Summed.{AreAllViewed, AreTaken, TakesAll}
use Rattle.view_command.specs.declared.dumping.Found.{Found}

all_found : (kept : Filter) (events : List Event) (old new : Found) → AreAllViewed kept events → AreTaken (HasFound kept) events old new
    → (new.wires.shown ≡ shown_after events old.wires.shown) × HaveReadAll events old.windows new.windows
all_found kept [] old new all is = (ap (λ (f : Found). f.wires.shown) is, ap (λ (f : Found). f.windows) is)
all_found kept (e ∷ es) old new all (mid, one, more) =
    let rest = all_found kept es mid new all.1 more in
    (rest.0 ∙ ap (shown_after es) (one.shown all.0), (mid.windows, one.windows, rest.1))

-- where the ticks begin and end stays
shown_so : (events : List Event) (s : ShownTicks) → ((shown_after events s).from ≡ s.from) × ((shown_after events s).to ≡ s.to)
shown_so [] s = (refl, refl)
shown_so (e ∷ es) s =
    let rest = shown_so es (with_read e.tick.0 s) in
    let one = by_test (is_before_end s.to e.tick.0) in
    (rest.0 ∙ one.0, rest.1 ∙ one.1)
  where
    by_test : (b : Bool) → ((with_read_if b e.tick.0 s).from ≡ s.from) × ((with_read_if b e.tick.0 s).to ≡ s.to)
    by_test true = (refl, refl)
    by_test false = (refl, refl)

-- the ticks of a run that are shown are before the end that is given
within : (to : Option Ticks) (from last : ℕ) → min (max from (end_of to last)) MOST_TICKS ≤ max from (end_in_run to)
within None from last = omega arith
within (Some end) from last = omega arith

ends_within : (from : Ticks) (to : Option Ticks) (s : ShownTicks) → s.from ≡ from → s.to ≡ to → min (shown_ticks s).until.0 MOST_TICKS ≤ max from.0 (end_in_run to)
ends_within from to s f e =
    subst (λ (x : Ticks). min (max s.from.0 (end_of s.to s.behind.0)) MOST_TICKS ≤ max x.0 (end_in_run to)) f
    (subst (λ (o : Option Ticks). min (max s.from.0 (end_of s.to s.behind.0)) MOST_TICKS ≤ max s.from.0 (end_in_run o)) e (within s.to s.from.0 s.behind.0))

pub dump_in : (text : Option (List ℕ)) (kept : Filter) (from : Ticks) (to : Option Ticks) (known : Option (Schedule × List (List ℕ))) (first last : Found) (d : Dump)
    → first.wires.shown ≡ shown_from from to → HaveBegun known from.0 to first.windows → TakesAll (HasFound kept) text first last → IsMadeOf last d → IsDumpIn text kept from to known d
dump_in None kept from to known first last d shown begun taken made = λ lines its. absurd its
dump_in (Some text) kept from to known first last d shown begun taken made = λ lines its.
    let all = all_found kept lines first last its.1 (taken lines its.0) in
    let until = made.until ∙ ap (λ (s : ShownTicks). (shown_ticks s).until) (all.0 ∙ ap (shown_after lines) shown) in
    let so = shown_so lines (shown_from from to) in
    record {
      until = until;
      windows = windows_of_all from.0 to lines known d.until.0 first.windows last.windows d.windows begun all.1 made.windows
          (subst (λ (t : Ticks). min t.0 MOST_TICKS ≤ max from.0 (end_in_run to)) (sym until) (ends_within from to (shown_after lines (shown_from from to)) so.0 so.1));
    }
