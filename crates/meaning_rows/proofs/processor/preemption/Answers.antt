use Rattle.std.proofs.Common.{refl}
use Rattle.meaning_rows.proofs.Computing.{reading_texts}
use Rattle.meaning_rows.proofs.processor.preemption.Goals as goal

pub returns : goal.returns
unfolding reading_texts
returns c = refl
