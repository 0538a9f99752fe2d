use Rattle.std.proofs.Common.{refl}
use Rattle.meaning_rows.proofs.Computing.{reading_texts}
use Rattle.meaning_rows.proofs.traces.init_alone.Goals as goal

pub returns-clause-sets_the_mode : goal.returns-clause-sets_the_mode
unfolding reading_texts
returns-clause-sets_the_mode c = refl

pub returns-clause-ends : goal.returns-clause-ends
unfolding reading_texts
returns-clause-ends c = refl
