use Rattle.std.proofs.Common.{None}
use Rattle.trace_view.specs.Reports.{HasCounted}
use Rattle.trace_lines.specs.Filters.{is_viewed}
use Rattle.std.proofs.Common.{◌≡◌, true}
use Rattle.view_command.specs.declared.naming.Named.{Named}
use Rattle.view_command.proofs.Taken.{report_in, takes_in}
use Rattle.view_command.proofs.side_by_side.report_of.Goals as goal

pub returns-clause-report : goal.returns-clause-report
returns-clause-report g c =
    let kept = c.args.showing.now.kept in
    let taken = takes_in (λ e a b. is_viewed kept e ≡ true → HasCounted e a b) (λ (n : Named _). n.taker) (g.R.Read.remaining c.args.text.reader) (record { taker = c.new-first.result; names = c.args.names }) c.read_all.new.taker c.in_ok-read_all.ensures.taken in
    report_in (g.R.Read.remaining c.args.text.reader) kept c.args.showing.now.from c.args.showing.now.to None c.new-first.result c.read_all.new.taker.taker c.in_ok-report.report
    (c.new-first.ensures None tt) taken c.in_ok-report.ensures
