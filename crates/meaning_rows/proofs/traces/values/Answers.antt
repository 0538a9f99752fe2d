use Rattle.std.proofs.Common.{refl}
use Rattle.meaning_rows.proofs.Computing.{reading_texts}
use Rattle.meaning_rows.proofs.traces.values.Goals as goal

pub returns-clause-divides : goal.returns-clause-divides
unfolding reading_texts
returns-clause-divides c = refl

pub returns-clause-ranks : goal.returns-clause-ranks
unfolding reading_texts
returns-clause-ranks c = refl

pub returns-clause-calls : goal.returns-clause-calls
unfolding reading_texts
returns-clause-calls c = refl
