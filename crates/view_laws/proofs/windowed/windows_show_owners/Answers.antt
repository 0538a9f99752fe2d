use Rattle.std.proofs.Common.{◌≡◌, List, subst, sym}
use Rattle.apex_types.specs.declared.event.Event.{Event}
use Rattle.trace_windows.specs.Whole.{AreWindowsIn}
use Rattle.view_laws.proofs.OfWindows.{machines_owned, modules_owned}
use Rattle.view_laws.proofs.windowed.windows_show_owners.Goals as goal

pub returns-clause-machine : goal.returns-clause-machine
returns-clause-machine c = λ from until known lines windows is.
    machines_owned (λ (trace : List Event). trace ≡ lines) from until known windows (λ trace same. subst (λ (ls : List Event). AreWindowsIn known from until ls windows) (sym same) is)

pub returns-clause-accepted : goal.returns-clause-accepted
returns-clause-accepted c = λ from until known lines windows is.
    modules_owned (λ (trace : List Event). trace ≡ lines) from until known windows (λ trace same. subst (λ (ls : List Event). AreWindowsIn known from until ls windows) (sym same) is)
