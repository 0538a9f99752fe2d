use Rattle.std.proofs.Common.{refl}
use Rattle.meaning_rows.proofs.Computing.{reading_texts}
use Rattle.meaning_rows.proofs.traces.one_process.Goals as goal

pub returns-clause-reports : goal.returns-clause-reports
unfolding reading_texts
returns-clause-reports c = refl

pub returns-clause-sleeps : goal.returns-clause-sleeps
unfolding reading_texts
returns-clause-sleeps c = refl
