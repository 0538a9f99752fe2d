use Rattle.view_laws.proofs.OfRuns.{image_uses, module_uses}
use Rattle.view_laws.proofs.uses.uses_are_spent.Goals as goal

pub returns-clause-machine : goal.returns-clause-machine
returns-clause-machine c = λ image devices n t lawful l few. image_uses image devices n t lawful l few

pub returns-clause-accepted : goal.returns-clause-accepted
returns-clause-accepted c = λ table sources t programs devices n i accepted l few. module_uses table sources t programs devices n i accepted l few
