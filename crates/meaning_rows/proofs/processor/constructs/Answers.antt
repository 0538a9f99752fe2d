use Rattle.std.proofs.Common.{refl}
use Rattle.meaning_rows.proofs.Computing.{reading_texts}
use Rattle.meaning_rows.proofs.processor.constructs.Goals as goal

pub returns-clause-sums : goal.returns-clause-sums
unfolding reading_texts
returns-clause-sums c = refl

pub returns-clause-loops : goal.returns-clause-loops
unfolding reading_texts
returns-clause-loops c = refl

pub returns-clause-first_block : goal.returns-clause-first_block
unfolding reading_texts
returns-clause-first_block c = refl

pub returns-clause-other_block : goal.returns-clause-other_block
unfolding reading_texts
returns-clause-other_block c = refl
