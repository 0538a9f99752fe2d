use Rattle.std.proofs.Common.{refl}
use Rattle.meaning_rows.proofs.Computing.{reading_texts, table_texts}
use Rattle.meaning_rows.proofs.tables.tables_are_judged.Goals as goal

pub returns-clause-single : goal.returns-clause-single
unfolding reading_texts table_texts
returns-clause-single c = refl

pub returns-clause-refused : goal.returns-clause-refused
unfolding reading_texts table_texts
returns-clause-refused c = refl
