-- The shapes of a line of a trace, and of the stays that are over with it.
use Rattle.std.specs.Prelude.{◌≡◌, ℕ, ℤ, ◌+◌, ◌-◌, ◌^◌, min, Bool, true, false, ◌==◌, ◌&&◌, nat_lt, if◌then◌else◌, List, [], ◌∷◌, flat_map, length, Option, Some, None, option_map}
use Rattle.arrayvec.specs.ArrayVec.{ArrayVec}
use Rattle.apex_types.specs.Line.{subject_text}
use Rattle.apex_types.specs.declared.codes.ErrorKind.{ErrorKind}
use Rattle.apex_types.specs.declared.codes.Response.{Response}
use Rattle.apex_types.specs.declared.event.EventKind.{EventKind}
use Rattle.apex_types.specs.declared.event.EventKind.TheVariants as event
use Rattle.apex_types.specs.declared.event.Subject.{Subject}
use Rattle.trace_picture.specs.declared.picture.Picture.{Picture}
use Rattle.trace_picture.specs.declared.shape.Owner.{Owner}
use Rattle.trace_picture.specs.declared.shape.Owner.TheVariants as owner
use Rattle.trace_picture.specs.declared.shape.Shape.{Shape}
use Rattle.trace_picture.specs.declared.shape.Shape.TheVariants as shape
use Rattle.trace_picture.specs.declared.shape.Stop.{Stop}
use Rattle.trace_picture.specs.declared.shape.Stop.TheVariants as stop
use Rattle.trace_picture.specs.declared.shape.Way.{Way}
use Rattle.trace_stays.specs.Following.{partition_at, process_at}
use Rattle.trace_stays.specs.Shown.{shown_ticks}
use Rattle.trace_stays.specs.Stays.{common, tick, ticks_of}
use Rattle.trace_stays.specs.declared.lanes.Ended.{Ended}
use Rattle.trace_stays.specs.declared.lanes.Ended.TheVariants as ended
use Rattle.trace_stays.specs.declared.lanes.Lanes.{Lanes}
use Rattle.trace_stays.specs.declared.span.Span.{Span}

-- ---- stays that are over: bars for the ticks of the picture

abbrev pub if_some : Span → Shape → List Shape
if_some s x = if ticks_of s == 0 then [] else x ∷ []

abbrev pub bar_of_stay : Span → Ended → List Shape
bar_of_stay shown (ended.State process stay) = if_some (common stay.span shown) (shape.State process (record stay { span = common stay.span shown }))
bar_of_stay shown (ended.Mode partition stay) = if_some (common stay.span shown) (shape.Mode partition (record stay { span = common stay.span shown }))

abbrev pub bars_of_stays : Span → List Ended → List Shape
bars_of_stays shown over = flat_map (bar_of_stay shown) over

-- ---- messages

-- the place of the next message among those of its tick
abbrev pub beside : ℕ → Option Way → ℕ
beside t None = 0
beside t (Some w) = if w.tick.0 == t then min (w.beside + 1) (2 ^ 64 - 1) else 0

abbrev pub way_from : ℕ → Stop → Option Way → Way
way_from t from w = record { tick = tick t; from = from; beside = beside t w }

abbrev pub is_port : Stop → Bool
is_port stop.Device = false
is_port (stop.Channel name) = false
is_port (stop.Port partition name) = true

-- a message that arrives is the last one that left a port in this tick or, if there is none, comes from outside
abbrev pub is_under_way : ℕ → Option Way → Bool
is_under_way t None = false
is_under_way t (Some w) = (w.tick.0 == t) && is_port w.from

abbrev pub way_to : ℕ → Option Way → Way
way_to t None = way_from t stop.Device None
way_to t (Some w) = if is_under_way t (Some w) then w else way_from t stop.Device (Some w)

abbrev pub message_at : ℕ → Option Way → Stop → Bool → ArrayVec ℤ → Shape
message_at t w to is_lost words =
    shape.Message (record { tick = tick t; beside = (way_to t w).beside; from = (way_to t w).from; to = to; lost = is_lost; words = words })

-- ---- errors and reports

-- an error belongs to its process, if it has one, and else to the partition
abbrev pub owner_in : List ℕ → Option Subject → Lanes → Option Owner
owner_in name None l = option_map (λ p. owner.Partition p) (partition_at name l.partitions.items)
owner_in name (Some who) l = option_map (λ p. owner.Process p) (process_at name (subject_text who) l)

abbrev pub flag_at : ℕ → ErrorKind → Option Subject → Response → Owner → Shape
flag_at t error who response o = shape.Flag (record { tick = tick t; owner = o; error = error; who = who; response = response })

abbrev pub report_at : ℕ → ArrayVec ℤ → ℕ → Shape
report_at t words process = shape.Report (record { tick = tick t; process = process; words = words })

-- ---- what a line shows in addition to states and modes

abbrev pub one_of : {A : Type 0} → Option A → (A → Shape) → List Shape
one_of None make = []
one_of (Some x) make = make x ∷ []

-- a line of the module
abbrev pub marks_of_module : ℕ → EventKind → List Shape
marks_of_module t (event.Error error who response) = flag_at t error who response owner.Module ∷ []
marks_of_module t _ = []

-- a line of the partition with this name
abbrev pub marks_in : ℕ → List ℕ → EventKind → Option Way → Lanes → List Shape
marks_in t name (event.Error error who response) w l = one_of (owner_in name who l) (flag_at t error who response)
marks_in t name (event.Report who words) w l = one_of (process_at name (subject_text who) l) (report_at t words)
marks_in t name (event.Arrive port words) w l = one_of (partition_at name l.partitions.items) (λ p. message_at t w (stop.Port p port) false words)
marks_in t name (event.Lost port words) w l = one_of (partition_at name l.partitions.items) (λ p. message_at t w (stop.Port p port) true words)
marks_in t name (event.Out channel words) w l = message_at t w (stop.Channel channel) false words ∷ []
marks_in t name _ w l = []

-- the way of the message that moved last
abbrev pub way_in : ℕ → List ℕ → EventKind → Option Way → Lanes → Option Way
way_in t name (event.Move port words) w l = option_map (λ p. way_from t (stop.Port p port) w) (partition_at name l.partitions.items)
way_in t name (event.Arrive port words) w l = Some (way_to t w)
way_in t name (event.Lost port words) w l = Some (way_to t w)
way_in t name (event.Out channel words) w l = Some (way_to t w)
way_in t name _ w l = w

-- ---- what stays of a picture

abbrev pub IsLikeButLanes : Picture → Picture → Type 0
IsLikeButLanes old new = (new.shapes ≡ old.shapes) × (new.shown ≡ old.shown) × (new.way ≡ old.way)

abbrev pub IsLike : Picture → Picture → Type 0
IsLike old new = (new.shown ≡ old.shown) × (new.lanes ≡ old.lanes) × (new.way ≡ old.way)

-- the ticks of a picture: those that are shown or, once it is full, those up to the line that filled it
abbrev pub kept_ticks : Picture → Span
kept_ticks p = if nat_lt 5000 (length p.shapes.items) then shown_ticks p.filled else shown_ticks p.shown
