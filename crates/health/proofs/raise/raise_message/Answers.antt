use Rattle.std.proofs.Common.{rules}
use Rattle.health.proofs.raise.raise_message.Goals as goal

pub returns-clause-step : goal.returns-clause-step
returns-clause-step c = search rules
