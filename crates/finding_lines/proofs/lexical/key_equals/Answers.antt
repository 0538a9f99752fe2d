use Rattle.std.proofs.Common.{rules}
use Rattle.toml.specs.Parse.{key_equals}
use Rattle.finding_lines.proofs.lexical.key_equals.Goals as goal

pub returns-clause-value : goal.returns-clause-value
unfolding key_equals
returns-clause-value c = search rules
