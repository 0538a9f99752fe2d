use Rattle.std.proofs.Common.{ap, ◌∙◌}
use Rattle.regions.specs.Space.{zeros}
use Rattle.processor.proofs.context.Context.start.Goals as goal

pub returns-clause-control : goal.returns-clause-control
returns-clause-control c = c.new.ensures c.clear_stack.new.self (ap (λ s. s.stack) c.clear_stack.ensures ∙ ap zeros c.requires)
