use Rattle.module_base.proofs.Prelude.{line_by}
use Rattle.module_base.proofs.Taken.{taken_line, no_line}
use Rattle.module_base.proofs.read.line_at.Goals as goal

pub returns-in-Some : goal.returns-in-Some
returns-in-Some g c =
    taken_line (g.T.TakesLines.named c.args.taker.now) c.args.count c.args.before.0 (line_by c.args.mark.now c.args.text.now) c.in-Some.line c.taken.result c.in-Some.ensures c.taken.ensures

pub returns-in-None : goal.returns-in-None
returns-in-None g c =
    no_line (g.T.TakesLines.named c.args.taker.now) c.args.count c.args.before.0 (line_by c.args.mark.now c.args.text.now) c.in-None.ensures
