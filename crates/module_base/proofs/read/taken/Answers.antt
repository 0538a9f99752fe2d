use Rattle.module_base.proofs.Prelude.{rules}
use Rattle.module_base.proofs.Taken.{later_line}
use Rattle.module_base.proofs.read.taken.Goals as goal

pub returns : goal.returns
returns g c = λ l e.
    later_line (g.T.TakesLines.named c.args.taker.now) c.args.count c.args.before.0 c.args.line l c.take.result
    e (search rules) c.take.ensures
