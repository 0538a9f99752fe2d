use Rattle.view_command.specs.Summed.{AreLinesIn}
use Rattle.view_command.specs.Windows.{windows_known}
use Rattle.view_command.proofs.Taken.{report_in}
use Rattle.view_laws.proofs.OfReports.{machines_told, modules_told}
use Rattle.view_command.proofs.summing.sum_up.Goals as goal

pub returns-clause-report : goal.returns-clause-report
returns-clause-report g c =
    let windows = windows_known c.args.table in
    report_in (g.R.Read.remaining c.args.text.reader) c.args.request.now.kept c.args.request.now.from c.args.request.now.to windows c.new-first.result c.in_ok-last.last c.in_ok-report.report
    (c.new-first.ensures windows c.in_ok-shares.ensures) c.in_ok-last.ensures.taken c.in_ok-report.ensures

pub returns-clause-machines : goal.returns-clause-machines
returns-clause-machines g c =
    machines_told (AreLinesIn (g.R.Read.remaining c.args.text.reader) c.args.request.now.kept) c.args.request.now.from c.args.request.now.to (windows_known c.args.table) c.in_ok-report.report (returns-clause-report g c)

pub returns-clause-modules : goal.returns-clause-modules
returns-clause-modules g c =
    modules_told (AreLinesIn (g.R.Read.remaining c.args.text.reader) c.args.request.now.kept) c.args.request.now.from c.args.request.now.to (windows_known c.args.table) c.in_ok-report.report (returns-clause-report g c)
