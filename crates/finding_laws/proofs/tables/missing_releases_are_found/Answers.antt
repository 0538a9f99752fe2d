use Rattle.module_meaning.specs.TableRules.{numbered}
use Rattle.finding_laws.proofs.Names.{partitions_differ}
use Rattle.finding_laws.proofs.Releases.{missing_releases_any}
use Rattle.finding_laws.proofs.tables.missing_releases_are_found.Goals as goal

pub returns : goal.returns
unfolding numbered
returns c = λ t apart. missing_releases_any t (partitions_differ t apart)
