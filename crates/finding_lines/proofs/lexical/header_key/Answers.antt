use Rattle.std.proofs.Common.{rules}
use Rattle.toml.specs.Parse.{header_key}
use Rattle.finding_lines.proofs.lexical.header_key.Goals as goal

pub returns-clause-value : goal.returns-clause-value
unfolding header_key
returns-clause-value c = search rules
