use Rattle.std.specs.Prelude.{vec_len}
use Rattle.trace_picture.proofs.page.Page.finish.Given as goal

abbrev pub decreases-loop-self : goal.decreases-loop-self
decreases-loop-self l = vec_len l.self.unended
