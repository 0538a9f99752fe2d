-- In whose window each tick of a run is, by the lines of its trace.
use Rattle.std.specs.Prelude.{ℕ, Bool, true, false, nat_lt, if◌then◌else◌, List, [], ◌∷◌, Option, Some, None}
use Rattle.std.specs.List.{list_any}
use Rattle.std.specs.Prelude.{◌&&◌, ◌==◌}
use Rattle.apex_types.specs.declared.codes.ModuleAction.TheVariants as action
use Rattle.apex_types.specs.declared.codes.Response.{Response}
use Rattle.apex_types.specs.declared.codes.Response.TheVariants as response
use Rattle.apex_types.specs.declared.event.Event.{Event}
use Rattle.apex_types.specs.declared.event.EventKind.{EventKind}
use Rattle.apex_types.specs.declared.event.EventKind.TheVariants as event
use Rattle.kernel_meaning.specs.Windows.{Schedule, owner, phase, tick_from}

-- The tick at which the frames begin, and whether the module is shut down.
pub record Frames : Type 0 where
  pub origin : ℕ
  pub is_down : Bool

abbrev pub at_first : Frames
at_first = record { origin = 0; is_down = false }

-- ---- after a line

-- frames begin with the tick of a reset of the module, and end with a shutdown
abbrev pub acted : Response → ℕ → Frames → Frames
acted (response.Module action.Reset) t f = record f { origin = t }
acted (response.Module action.Shutdown) t f = record f { is_down = true }
acted _ t f = f

abbrev pub with_module : EventKind → ℕ → Frames → Frames
with_module (event.Error error who answer) t f = acted answer t f
with_module _ t f = f

abbrev pub with_line : Event → Frames → Frames
with_line e f = elim e.partition [ None ↦ with_module e.kind e.tick.0 f | Some name ↦ f ]

-- ---- a tick

abbrev pub owner_if : Bool → Option ℕ → Option ℕ
owner_if true o = None
owner_if false o = o

-- the partition in whose window a tick is; none after a shutdown
abbrev pub owner_by : Schedule → Frames → ℕ → Option ℕ
owner_by s f t = owner_if f.is_down (owner s (tick_from f.origin t))

-- in a run with these lines
abbrev pub owner_in : Schedule → Frames → List Event → ℕ → Option ℕ
owner_in s f [] t = owner_by s f t
owner_in s f (e ∷ es) t = if nat_lt t e.tick.0 then owner_by s f t else owner_in s (with_line e f) es t

-- a window that is a release point begins at a tick
abbrev pub is_release_at : Schedule → Frames → ℕ → Bool
is_release_at s f t = list_any (λ w. w.release && (w.offset == phase s (tick_from f.origin t))) s.windows
