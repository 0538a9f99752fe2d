use Rattle.std.proofs.Common.{refl}
use Rattle.meaning_rows.proofs.Computing.{image_bytes, reading_texts}
use Rattle.meaning_rows.proofs.images.sources_are_built.Goals as goal

pub returns-clause-smallest : goal.returns-clause-smallest
unfolding reading_texts image_bytes
returns-clause-smallest c = refl

pub returns-clause-reporting : goal.returns-clause-reporting
unfolding reading_texts image_bytes
returns-clause-reporting c = refl

pub returns-clause-recursive : goal.returns-clause-recursive
unfolding reading_texts image_bytes
returns-clause-recursive c = refl
