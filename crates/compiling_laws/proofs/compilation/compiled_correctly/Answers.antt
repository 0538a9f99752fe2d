use Rattle.compiling_laws.proofs.Starts.{compiled_correctly}
use Rattle.compiling_laws.proofs.compilation.compiled_correctly.Goals as goal

pub returns : goal.returns
returns c = λ program fits. compiled_correctly program fits
