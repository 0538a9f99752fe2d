use Rattle.std.proofs.Common.{refl}
use Rattle.meaning_rows.proofs.Computing.{reading_texts}
use Rattle.meaning_rows.proofs.code.instructions_fail.Goals as goal

pub returns-clause-words : goal.returns-clause-words
unfolding reading_texts
returns-clause-words c = refl

pub returns-clause-operands : goal.returns-clause-operands
unfolding reading_texts
returns-clause-operands c = refl

pub returns-clause-addresses : goal.returns-clause-addresses
unfolding reading_texts
returns-clause-addresses c = refl

pub returns-clause-regions : goal.returns-clause-regions
unfolding reading_texts
returns-clause-regions c = refl

pub returns-clause-numbers : goal.returns-clause-numbers
unfolding reading_texts
returns-clause-numbers c = refl

pub returns-clause-room : goal.returns-clause-room
unfolding reading_texts
returns-clause-room c = refl

pub returns-clause-jumps : goal.returns-clause-jumps
unfolding reading_texts
returns-clause-jumps c = refl
