use Rattle.module.proofs.Prelude.{drop, brought_in_all, plan_of}
use Rattle.module.proofs.Collecting.{IsPartly}
use Rattle.module.proofs.bringing.bring_in_all.Given as goal

abbrev pub invariant-loop-line : goal.invariant-loop-line
invariant-loop-line l = IsPartly l.now.0 (brought_in_all (plan_of l.plan) l.watched.0 l.lines) (brought_in_all (plan_of l.plan) l.watched.0 (drop l.line-index l.lines)) l.fn.inputs.lines.items l.inputs.lines.items
