-- The bars of a picture of a whole trace, and what they say of its lines: who is in which state, and which partition in which mode.
use Rattle.std.specs.Prelude.{◌≡◌, ◌≤◌, ℕ, Bool, true, false, ◌==◌, if◌then◌else◌, List, [], ◌∷◌, ◌++◌, length, Option, Some, None}
use Rattle.apex_types.specs.declared.event.Event.{Event}
use Rattle.apex_types.specs.declared.identity.Ticks.{Ticks}
use Rattle.kernel_meaning.specs.Windows.{Schedule}
use Rattle.trace_picture.specs.Marked.{bars_of_stays}
use Rattle.trace_picture.specs.declared.drawing.Drawing.{Drawing}
use Rattle.trace_picture.specs.declared.picture.Picture.{Picture}
use Rattle.trace_picture.specs.declared.shape.Shape.{Shape}
use Rattle.trace_picture.specs.declared.shape.Shape.TheVariants as shape
use Rattle.trace_stays.specs.Following.{HasFollowed, mode_stays_of, modes_left, partition_at, process_at, states_left, stays_of}
use Rattle.trace_stays.specs.Shown.{is_before_end, open_ticks, shown_from, shown_ticks, with_read}
use Rattle.trace_stays.specs.Stays.{common, ticks_of}
use Rattle.trace_stays.specs.Traces.{modes_in, stays_in}
use Rattle.trace_stays.specs.declared.lanes.Ended.{Ended}
use Rattle.trace_stays.specs.declared.lanes.Ended.TheVariants as ended
use Rattle.trace_stays.specs.declared.shown.ShownTicks.{ShownTicks}
use Rattle.trace_stays.specs.declared.span.Span.{Span}
use Rattle.trace_stays.specs.declared.stay.ModeStay.{ModeStay}
use Rattle.trace_stays.specs.declared.stay.Stay.{Stay}
use Rattle.trace_windows.specs.Whole.{AreWindowsIn}
use Rattle.trace_windows.specs.declared.windows.Windows.{Windows}

-- ---- bars

-- the bars among shapes, as the stays that they show
abbrev pub bars_in : List Shape → List Ended
bars_in [] = []
bars_in (shape.State process stay ∷ ss) = ended.State process stay ∷ bars_in ss
bars_in (shape.Mode partition stay ∷ ss) = ended.Mode partition stay ∷ bars_in ss
bars_in (shape.Message m ∷ ss) = bars_in ss
bars_in (shape.Flag f ∷ ss) = bars_in ss
bars_in (shape.Report r ∷ ss) = bars_in ss

-- those of a process of a partition, and those of a partition
abbrev pub stays_drawn : (name word : List ℕ) → Drawing → List Stay
stays_drawn name word d = stays_of (process_at name word d.lanes) (bars_in d.shapes.items)

abbrev pub modes_drawn : List ℕ → Drawing → List ModeStay
modes_drawn name d = mode_stays_of (partition_at name d.lanes.partitions.items) (bars_in d.shapes.items)

-- ---- stays, as far as they are shown

abbrev pub unless_none : {A : Type 0} → Span → A → List A
unless_none s x = if ticks_of s == 0 then [] else x ∷ []

abbrev pub stays_shown : Span → List Stay → List Stay
stays_shown shown [] = []
stays_shown shown (s ∷ ss) = unless_none (common s.span shown) (record s { span = common s.span shown }) ++ stays_shown shown ss

abbrev pub modes_shown : Span → List ModeStay → List ModeStay
modes_shown shown [] = []
modes_shown shown (s ∷ ss) = unless_none (common s.span shown) (record s { span = common s.span shown }) ++ modes_shown shown ss

-- ---- a picture, after each line and in the end

-- The stays that are over with a line have their bars.
pub record HasKept (e : Event) (old new : Picture) : Type 0 where
  pub over : List Ended
  pub followed : (before : List Ended) → HasFollowed e old.lanes new.lanes before (before ++ over)
  pub bars : bars_in new.shapes.items ≡ bars_in old.shapes.items ++ bars_in (bars_of_stays (open_ticks old.shown) over)

-- a line before the end of the ticks is read, and a later one is not
abbrev pub HasKeptIf : Bool → Event → Picture → Picture → Type 0
HasKeptIf true e old new = HasKept e old new
HasKeptIf false e old new = (new.lanes ≡ old.lanes) × (new.shapes ≡ old.shapes)

-- A line was added. A picture with too many shapes keeps no more of them.
pub record HasDrawn (e : Event) (old new : Picture) : Type 0 where
  pub shown : new.shown ≡ with_read e.tick.0 old.shown
  pub fits : length new.shapes.items ≤ 5000 → length old.shapes.items ≤ 5000
  pub kept : length new.shapes.items ≤ 5000 → HasKeptIf (is_before_end old.shown.to e.tick.0) e old new

-- these lines were added, one after another
abbrev pub AreDrawn : List Event → Picture → Picture → Type 0
AreDrawn [] old new = new ≡ old
AreDrawn (e ∷ es) old new = (mid : Picture) × HasDrawn e old mid × AreDrawn es mid new

-- the stays that are not over at the end have their bars, too
pub record HasFinished (p : Picture) (given : Option Windows) (d : Drawing) : Type 0 where
  pub fits : length p.shapes.items ≤ 5000
  pub span : d.axis.span ≡ shown_ticks p.shown
  pub lanes : d.lanes ≡ p.lanes
  pub windows : d.windows ≡ given
  pub bars : bars_in d.shapes.items ≡ bars_in p.shapes.items
      ++ bars_in (bars_of_stays (open_ticks p.shown) (modes_left 0 (shown_ticks p.shown).until.0 p.lanes.partitions.items ++ states_left 0 (shown_ticks p.shown).until.0 p.lanes.processes.items))

-- ---- a picture of a whole trace

abbrev pub lines_before : Option Ticks → List Event → List Event
lines_before to [] = []
lines_before to (e ∷ es) = if is_before_end to e.tick.0 then e ∷ lines_before to es else lines_before to es

abbrev pub shown_after : List Event → ShownTicks → ShownTicks
shown_after [] s = s
shown_after (e ∷ es) s = shown_after es (with_read e.tick.0 s)

-- The picture of a trace of these lines, in the ticks from one on and before the end, if one is given. Each process has a bar for each of its stays in the lines
-- before the end, and each partition one for each of its stays in a mode, as far as their ticks are shown; and no other. The windows, if they are known, are
-- those that the lines lead to.
pub record IsDrawnOf (from : Ticks) (to : Option Ticks) (known : Option (Schedule × List (List ℕ))) (events : List Event) (d : Drawing) : Type 0 where
  pub span : d.axis.span ≡ shown_ticks (shown_after events (shown_from from to))
  pub states : (name word : List ℕ) → stays_drawn name word d ≡ stays_shown (open_ticks (shown_from from to)) (stays_in (lines_before to events) d.axis.span.until.0 name word None)
  pub modes : (name : List ℕ) → modes_drawn name d ≡ modes_shown (open_ticks (shown_from from to)) (modes_in (lines_before to events) d.axis.span.until.0 name None)
  pub windows : AreWindowsIn known from.0 d.axis.span.until.0 events d.windows
