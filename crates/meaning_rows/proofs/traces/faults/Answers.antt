use Rattle.std.proofs.Common.{refl}
use Rattle.meaning_rows.proofs.Computing.{reading_texts}
use Rattle.meaning_rows.proofs.traces.faults.Goals as goal

pub returns-clause-overflows : goal.returns-clause-overflows
unfolding reading_texts
returns-clause-overflows c = refl

pub returns-clause-calls_too_deep : goal.returns-clause-calls_too_deep
unfolding reading_texts
returns-clause-calls_too_deep c = refl

pub returns-clause-stores_outside : goal.returns-clause-stores_outside
unfolding reading_texts
returns-clause-stores_outside c = refl
