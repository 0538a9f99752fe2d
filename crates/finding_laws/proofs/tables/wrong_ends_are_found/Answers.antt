use Rattle.module_meaning.specs.TableRules.{numbered}
use Rattle.finding_laws.proofs.Ends.{ends_any}
use Rattle.finding_laws.proofs.tables.wrong_ends_are_found.Goals as goal

pub returns : goal.returns
unfolding numbered
returns c = λ t kept known. ends_any t kept known
