use Rattle.std.proofs.Common.{refl}
use Rattle.meaning_rows.proofs.Computing.{reading_texts}
use Rattle.meaning_rows.proofs.smallest.a_source_is_read.Goals as goal

pub returns-clause-words : goal.returns-clause-words
unfolding reading_texts
returns-clause-words c = refl

pub returns-clause-tree : goal.returns-clause-tree
unfolding reading_texts
returns-clause-tree c = refl

pub returns-clause-program : goal.returns-clause-program
unfolding reading_texts
returns-clause-program c = refl
