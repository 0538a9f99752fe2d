use Rattle.std.proofs.Common.{refl}
use Rattle.meaning_rows.proofs.Computing.{reading_texts}
use Rattle.meaning_rows.proofs.traces.preemption.Goals as goal

pub returns : goal.returns
unfolding reading_texts
returns c = refl
