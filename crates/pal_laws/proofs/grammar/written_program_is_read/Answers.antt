use Rattle.pal_laws.proofs.ReadPrograms.{written_is_read as law}
use Rattle.pal_laws.proofs.grammar.written_program_is_read.Goals as goal

pub returns : goal.returns
returns c = law
