use Rattle.std.proofs.Common.{refl}
use Rattle.meaning_rows.proofs.Computing.{reading_texts, table_texts}
use Rattle.meaning_rows.proofs.tables.modules_run.Goals as goal

pub returns-clause-reporting : goal.returns-clause-reporting
unfolding reading_texts table_texts
returns-clause-reporting c = refl

pub returns-clause-two_partitions : goal.returns-clause-two_partitions
unfolding reading_texts table_texts
returns-clause-two_partitions c = refl
