-- The drawing that is made of the text of a trace.
use Rattle.std.specs.Prelude.{◌≡◌, ℕ, true, List, Option}
use Rattle.apex_types.specs.declared.event.Event.{Event}
use Rattle.apex_types.specs.declared.identity.Ticks.{Ticks}
use Rattle.kernel_meaning.specs.Windows.{Schedule}
use Rattle.trace_lines.specs.Filters.{is_viewed}
use Rattle.trace_lines.specs.declared.filter.Filter.{Filter}
use Rattle.trace_picture.specs.Drawn.{HasDrawn, HasFinished, IsDrawnOf}
use Rattle.trace_picture.specs.Marked.{kept_ticks}
use Rattle.trace_picture.specs.declared.drawing.Drawing.{Drawing}
use Rattle.trace_windows.specs.Whole.{HaveClosed, HaveRead}
use Rattle.view_command.specs.Summed.{AreLinesIn}
use Rattle.view_command.specs.declared.drawing.Sketch.{Sketch}

-- a line was added to the picture, if the filter lets it through, and all lines count for the windows
pub record HasSketched (kept : Filter) (e : Event) (old new : Sketch) : Type 0 where
  pub windows : HaveRead e old.windows new.windows
  pub picture : is_viewed kept e ≡ true → HasDrawn e old.picture new.picture

-- no line follows
pub record IsFinished (s : Sketch) (d : Drawing) : Type 0 where
  pub windows : HaveClosed (kept_ticks s.picture).until.0 s.windows d.windows
  pub picture : HasFinished s.picture d.windows d

-- The drawing is that of the lines of a text, if the text is known and the filter lets all of them through.
abbrev pub IsDrawnIn : Option (List ℕ) → Filter → Ticks → Option Ticks → Option (Schedule × List (List ℕ)) → Drawing → Type 0
IsDrawnIn text kept from to windows d = (lines : List Event) → AreLinesIn text kept lines → IsDrawnOf from to windows lines d
