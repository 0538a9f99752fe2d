-- The stretches that are added.
use Rattle.std.proofs.Common.{◌≡◌, List, [], ◌++◌, append-nil, refl, sym}
use Rattle.trace_windows.specs.Frames.{owner_by}
use Rattle.trace_windows.specs.Read.{HasPassed, frames_of}
use Rattle.trace_windows.specs.Stretches.{AreStretches}
use Rattle.trace_windows.specs.declared.stretch.Stretch.{Stretch}
use Rattle.trace_windows.specs.declared.windows.Windows.{Windows}
use Rattle.window_table.specs.Schedules.{schedule_of}

-- none is
pub stays : (w : Windows) → HasPassed w w
stays w = ([], sym (append-nil w.stretches.items), refl)

pub passes : (old new : Windows) (more : List Stretch) → new.stretches.items ≡ old.stretches.items ++ more
    → AreStretches (owner_by (schedule_of old.schedule) (frames_of old)) old.next.0 new.next.0 more → HasPassed old new
passes old new more added are = (more, added, are)
