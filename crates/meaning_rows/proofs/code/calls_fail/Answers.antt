use Rattle.std.proofs.Common.{refl}
use Rattle.meaning_rows.proofs.Computing.{reading_texts}
use Rattle.meaning_rows.proofs.code.calls_fail.Goals as goal

pub returns-clause-too_few_parameters : goal.returns-clause-too_few_parameters
unfolding reading_texts
returns-clause-too_few_parameters c = refl

pub returns-clause-too_little_room : goal.returns-clause-too_little_room
unfolding reading_texts
returns-clause-too_little_room c = refl

pub returns-clause-exact_room : goal.returns-clause-exact_room
unfolding reading_texts
returns-clause-exact_room c = refl

pub returns-clause-one_parameter : goal.returns-clause-one_parameter
unfolding reading_texts
returns-clause-one_parameter c = refl
