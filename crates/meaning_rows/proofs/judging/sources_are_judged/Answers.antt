use Rattle.std.proofs.Common.{refl}
use Rattle.meaning_rows.proofs.Computing.{reading_texts}
use Rattle.meaning_rows.proofs.judging.sources_are_judged.Goals as goal

pub returns-clause-accepted : goal.returns-clause-accepted
unfolding reading_texts
returns-clause-accepted c = refl

pub returns-clause-no_tree : goal.returns-clause-no_tree
unfolding reading_texts
returns-clause-no_tree c = refl

pub returns-clause-by_name : goal.returns-clause-by_name
unfolding reading_texts
returns-clause-by_name c = refl

pub returns-clause-by_kind : goal.returns-clause-by_kind
unfolding reading_texts
returns-clause-by_kind c = refl

pub returns-clause-by_limit : goal.returns-clause-by_limit
unfolding reading_texts
returns-clause-by_limit c = refl

pub returns-clause-by_period : goal.returns-clause-by_period
unfolding reading_texts
returns-clause-by_period c = refl
