use Rattle.std.proofs.Common.{rules}
use Rattle.finding_lines.specs.Entries.{behind_atom}
use Rattle.finding_lines.proofs.lexical.behind_atom.Goals as goal

pub returns-in_ok-rest-clause-value : goal.returns-in_ok-rest-clause-value
unfolding behind_atom
returns-in_ok-rest-clause-value c = search rules

pub returns-in_ok-rest-2-clause-value : goal.returns-in_ok-rest-2-clause-value
unfolding behind_atom
returns-in_ok-rest-2-clause-value c = search rules
