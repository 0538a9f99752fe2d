use Rattle.view_command.specs.Summed.{AreLinesIn}
use Rattle.view_command.specs.Windows.{windows_known}
use Rattle.view_command.proofs.Made.{dump_in}
use Rattle.view_laws.proofs.OfWindows.{machines_owned, modules_owned}
use Rattle.view_command.proofs.dumping.find.Goals as goal

pub returns-in-Ok-clause-dump : goal.returns-in-Ok-clause-dump
returns-in-Ok-clause-dump g c =
    dump_in (g.R.Read.remaining c.args.text.reader) c.args.request.now.kept c.args.request.now.from c.args.request.now.to (windows_known c.args.table) c.in_ok-first.first c.in_ok-last.last c.in-Ok.found.0
    c.in_ok-first.ensures.shown c.in_ok-first.ensures.windows c.in_ok-last.ensures.taken c.in-Ok.ensures

pub returns-in-Ok-clause-machines : goal.returns-in-Ok-clause-machines
returns-in-Ok-clause-machines g c =
    machines_owned (AreLinesIn (g.R.Read.remaining c.args.text.reader) c.args.request.now.kept) c.args.request.now.from.0 c.in-Ok.found.0.until.0 (windows_known c.args.table) c.in-Ok.found.0.windows
    (λ lines its. let d = returns-in-Ok-clause-dump g c lines its in d.windows)

pub returns-in-Ok-clause-modules : goal.returns-in-Ok-clause-modules
returns-in-Ok-clause-modules g c =
    modules_owned (AreLinesIn (g.R.Read.remaining c.args.text.reader) c.args.request.now.kept) c.args.request.now.from.0 c.in-Ok.found.0.until.0 (windows_known c.args.table) c.in-Ok.found.0.windows
    (λ lines its. let d = returns-in-Ok-clause-dump g c lines its in d.windows)
