-- The lines of a text are drawn one after another.
use Rattle.std.proofs.Common.{◌≡◌, ℕ, ◌≤◌, true, false, List, [], ◌∷◌, Option, Some, None, sym, ap, subst, ◌∙◌}
use Rattle.std.specs.Prelude.{nat_lt, if◌then◌else◌, length}
use Rattle.std.proofs.lemmas.Bool.{le-ltb}
use Rattle.apex_types.specs.declared.event.Event.{Event}
use Rattle.apex_types.specs.declared.identity.Ticks.{Ticks}
use Rattle.kernel_meaning.specs.Windows.{Schedule}
use Rattle.trace_lines.specs.declared.filter.Filter.{Filter}
use Rattle.trace_picture.specs.Drawn.{AreDrawn, IsDrawnOf}
use Rattle.trace_picture.specs.Marked.{kept_ticks}
use Rattle.trace_picture.specs.declared.drawing.Drawing.{Drawing}
use Rattle.trace_picture.specs.declared.picture.Picture.{Picture}
use Rattle.trace_picture.proofs.Drawn.{drawn_of_all, ends_inside}
use Rattle.trace_stays.specs.Shown.{shown_from, shown_ticks}
use Rattle.trace_stays.specs.declared.span.Span.{Span}
use Rattle.trace_windows.specs.Whole.{HaveBegun, HaveClosed, HaveReadAll}
use Rattle.trace_windows.proofs.Whole.{windows_of_all}
use Rattle.view_command.specs.Drawn.{HasSketched, IsDrawnIn, IsFinished}
use Rattle.view_command.specs.Summed.{AreAllViewed, AreTaken, TakesAll}
use Rattle.view_command.specs.declared.drawing.Sketch.{Sketch}

all_drawn : (kept : Filter) (events : List Event) (old new : Sketch) → AreAllViewed kept events → AreTaken (HasSketched kept) events old new
    → AreDrawn events old.picture new.picture × HaveReadAll events old.windows new.windows
all_drawn kept [] old new all is = (ap (λ (s : Sketch). s.picture) is, ap (λ (s : Sketch). s.windows) is)
all_drawn kept (e ∷ es) old new all (mid, one, more) =
    let rest = all_drawn kept es mid new all.1 more in
    ((mid.picture, one.picture all.0, rest.0), (mid.windows, one.windows, rest.1))

-- a picture without too many shapes has all ticks that are shown
all_kept : (p : Picture) → length p.shapes.items ≤ 5000 → kept_ticks p ≡ shown_ticks p.shown
all_kept p few = ap (λ b. if b then shown_ticks p.filled else shown_ticks p.shown) (le-ltb 5000 (length p.shapes.items) few)

pub drawing_in : (text : Option (List ℕ)) (kept : Filter) (from : Ticks) (to : Option Ticks) (known : Option (Schedule × List (List ℕ))) (first last : Sketch) (d : Drawing)
    → first.picture.shown ≡ shown_from from to → first.picture.lanes.partitions.items ≡ [] → first.picture.shapes.items ≡ [] → HaveBegun known from.0 to first.windows
    → TakesAll (HasSketched kept) text first last → IsFinished last d → IsDrawnIn text kept from to known d
drawing_in None kept from to known first last d shown nobody none begun taken finished = λ lines its. absurd its
drawing_in (Some text) kept from to known first last d shown nobody none begun taken finished = λ lines its.
    let all = all_drawn kept lines first last its.1 (taken lines its.0) in
    let same : kept_ticks last.picture ≡ d.axis.span = all_kept last.picture finished.picture.fits ∙ sym finished.picture.span in
    drawn_of_all from to lines known first.picture last.picture d shown nobody none all.0 finished.picture
    (windows_of_all from.0 to lines known d.axis.span.until.0 first.windows last.windows d.windows begun all.1
    (subst (λ (s : Span). HaveClosed s.until.0 last.windows d.windows) same finished.windows) (ends_inside from to lines first.picture last.picture d shown nobody none all.0 finished.picture))
