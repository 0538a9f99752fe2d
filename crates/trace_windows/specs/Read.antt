-- The windows while the lines of a trace are read.
use Rattle.std.specs.Prelude.{◌≡◌, ℕ, max, min, List, ◌++◌, Option, Some, None}
use Rattle.apex_types.specs.declared.codes.ModuleAction.TheVariants as action
use Rattle.apex_types.specs.declared.codes.Response.{Response}
use Rattle.apex_types.specs.declared.codes.Response.TheVariants as response
use Rattle.apex_types.specs.declared.event.Event.{Event}
use Rattle.apex_types.specs.declared.event.EventKind.{EventKind}
use Rattle.apex_types.specs.declared.event.EventKind.TheVariants as event
use Rattle.trace_windows.specs.Frames.{Frames, owner_by}
use Rattle.trace_windows.specs.Stretches.{AreStretches}
use Rattle.trace_windows.specs.declared.stretch.Stretch.{Stretch}
use Rattle.trace_windows.specs.declared.windows.Windows.{Windows}
use Rattle.window_table.specs.Schedules.{schedule_of}

abbrev pub frames_of : Windows → Frames
frames_of w = record { origin = w.origin.0; is_down = w.is_down }

-- the first tick that is in no stretch yet, after those before `t`
abbrev pub next_behind : Windows → ℕ → ℕ
next_behind w t = max w.next.0 (min t w.to.0)

-- the same after a line: one that ends the frames so far adds the stretches before its tick
abbrev pub next_acted : Response → ℕ → Windows → ℕ
next_acted (response.Module action.Reset) t w = next_behind w t
next_acted (response.Module action.Shutdown) t w = next_behind w t
next_acted _ t w = w.next.0

abbrev pub next_module : EventKind → ℕ → Windows → ℕ
next_module (event.Error error who answer) t w = next_acted answer t w
next_module _ t w = w.next.0

abbrev pub next_with : Event → Windows → ℕ
next_with e w = elim e.partition [ None ↦ next_module e.kind e.tick.0 w | Some name ↦ w.next.0 ]

-- the stretches up to there are added
abbrev pub HasPassed : Windows → Windows → Type 0
HasPassed old new =
    (more : List Stretch) × (new.stretches.items ≡ old.stretches.items ++ more)
    × AreStretches (owner_by (schedule_of old.schedule) (frames_of old)) old.next.0 new.next.0 more
