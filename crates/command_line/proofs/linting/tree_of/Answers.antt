use Rattle.command_line.proofs.Linted.{memory_alone}
use Rattle.command_line.proofs.linting.tree_of.Goals as goal

pub returns-clause-memory : goal.returns-clause-memory
returns-clause-memory c = memory_alone c.args.source.now c.parse.result c.requires c.parse.ensures.refusal
