use Rattle.pal_laws.proofs.Shaped.{program_is_written as law}
use Rattle.pal_laws.proofs.grammar.program_is_written_so.Goals as goal

pub returns : goal.returns
returns c = law
