use Rattle.std.proofs.Common.{subst, sym}
use Rattle.trace_picture.specs.Page.{IsPicture}
use Rattle.trace_picture.proofs.drawing.Drawing.write.Goals as goal

-- the written bytes are the text of the picture
pub returns : goal.returns
returns g c = (c.as_bytes.result.now, (subst (λ t. ∥ IsPicture t ∥₁) (sym c.as_bytes.ensures.value) c.in_ok-text.ensures, c.in_ok-write_all.ensures.bytes))
