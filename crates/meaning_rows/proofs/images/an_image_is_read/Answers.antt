use Rattle.std.proofs.Common.{refl}
use Rattle.meaning_rows.proofs.Computing.{image_bytes, reading_texts}
use Rattle.meaning_rows.proofs.images.an_image_is_read.Goals as goal

pub returns : goal.returns
unfolding reading_texts image_bytes
returns c = refl
