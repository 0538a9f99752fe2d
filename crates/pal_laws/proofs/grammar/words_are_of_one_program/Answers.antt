use Rattle.pal_laws.proofs.ReadPrograms.{written_once as law}
use Rattle.pal_laws.proofs.grammar.words_are_of_one_program.Goals as goal

pub returns : goal.returns
returns c = law
