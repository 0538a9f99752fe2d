-- Why an event is not shown, and what was found.
use Rattle.std.specs.Prelude.{is_some, if◌then◌else◌}
use Rattle.trace_picture.specs.declared.fault.PictureFault.{PictureFault}
use Rattle.trace_picture.specs.declared.fault.PictureFault.TheVariants as picture
use Rattle.trace_windows.specs.declared.shares_fault.SharesFault.{SharesFault}
use Rattle.trace_windows.specs.declared.shares_fault.SharesFault.TheVariants as shares
use Rattle.trace_windows.specs.declared.fault.WindowsFault.{WindowsFault}
use Rattle.trace_windows.specs.declared.fault.WindowsFault.TheVariants as windows
use Rattle.view_command.specs.declared.views.Shown.{Shown}
use Rattle.view_command.specs.declared.views.Shown.TheVariants as shown
use Rattle.view_command.specs.declared.views.Outcome.{Outcome}
use Rattle.view_command.specs.declared.views.Outcome.TheVariants as outcome
use Rattle.view_command.specs.declared.views.ViewFault.{ViewFault}
use Rattle.view_command.specs.declared.views.ViewFault.TheVariants as fault

-- each fault of a picture is the fault of the same name
abbrev pub view_fault : PictureFault → ViewFault
view_fault picture.Memory = fault.Memory
view_fault (picture.Crowded excess) = fault.Crowded excess

abbrev pub shares_fault : SharesFault → ViewFault
shares_fault shares.Memory = fault.Memory
shares_fault (shares.Unknown name) = fault.Foreign name

abbrev pub windows_fault : WindowsFault → ViewFault
windows_fault windows.Memory = fault.Memory
windows_fault windows.TooMany = fault.TooMany
windows_fault (windows.Unknown name) = fault.Foreign name

-- a line was found that the trace may not have
abbrev pub outcome_of : Shown → Outcome
outcome_of (shown.Check check) = if is_some check.broken then outcome.Found else outcome.Shown
outcome_of _ = outcome.Shown
