use Rattle.module_meaning.specs.TableRules.{numbered}
use Rattle.finding_laws.proofs.Names.{partitions_differ}
use Rattle.finding_laws.proofs.Durations.{short_periods_any}
use Rattle.finding_laws.proofs.tables.short_periods_are_found.Goals as goal

pub returns : goal.returns
unfolding numbered
returns c = λ t kept apart. short_periods_any t kept (partitions_differ t apart)
