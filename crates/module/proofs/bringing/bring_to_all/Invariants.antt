use Rattle.module.proofs.Prelude.{drop, brought_to}
use Rattle.module.proofs.Collecting.{IsPartly}
use Rattle.module.proofs.bringing.bring_to_all.Given as goal

abbrev pub invariant-loop-end : goal.invariant-loop-end
invariant-loop-end l = IsPartly l.now.0 (brought_to l.watched.0 l.message l.ends) (brought_to l.watched.0 l.message (drop l.end-index l.ends)) l.fn.inputs.lines.items l.inputs.lines.items
