use Rattle.std.proofs.Common.{◌≡◌, List, subst, sym}
use Rattle.apex_types.specs.declared.event.Event.{Event}
use Rattle.trace_view.specs.Reports.{IsReportOf}
use Rattle.view_laws.proofs.OfReports.{machines_told, modules_told}
use Rattle.view_laws.proofs.reports.reports_tell_runs.Goals as goal

pub returns-clause-machine : goal.returns-clause-machine
returns-clause-machine c = λ from to windows lines report is. machines_told (λ (trace : List Event). trace ≡ lines) from to windows report (λ trace same. subst (λ (ls : List Event). IsReportOf from to windows ls report) (sym same) is)

pub returns-clause-accepted : goal.returns-clause-accepted
returns-clause-accepted c = λ from to windows lines report is. modules_told (λ (trace : List Event). trace ≡ lines) from to windows report (λ trace same. subst (λ (ls : List Event). IsReportOf from to windows ls report) (sym same) is)
