use Rattle.links.proofs.Prelude.{sym, ◌∙◌}
use Rattle.links.proofs.Exact.{first_least, none_least}
use Rattle.links.proofs.timers.least.Goals as goal

pub returns-in-Some : goal.returns-in-Some
returns-in-Some c = λ ticks h. first_least ticks _ c.in-Some.entry (sym c.in-Some.is ∙ c.first.ensures.value) c.in-Some.ensures.least h

pub returns-in-None : goal.returns-in-None
returns-in-None c = λ ticks h. none_least ticks c.args.dues.now (sym c.in-None.is ∙ c.first.ensures.value) h
