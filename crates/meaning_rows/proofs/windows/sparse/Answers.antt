use Rattle.std.proofs.Common.{refl}
use Rattle.meaning_rows.proofs.Computing.{reading_texts}
use Rattle.meaning_rows.proofs.windows.sparse.Goals as goal

pub returns-clause-owners : goal.returns-clause-owners
unfolding reading_texts
returns-clause-owners c = refl

pub returns-clause-ends : goal.returns-clause-ends
unfolding reading_texts
returns-clause-ends c = refl

pub returns-clause-releases_of_first : goal.returns-clause-releases_of_first
unfolding reading_texts
returns-clause-releases_of_first c = refl

pub returns-clause-releases_of_second : goal.returns-clause-releases_of_second
unfolding reading_texts
returns-clause-releases_of_second c = refl
