use Rattle.pal_laws.proofs.Places.{refused_words_leave as law}
use Rattle.pal_laws.proofs.grammar.refused_words_leave_the_grammar.Goals as goal

pub returns : goal.returns
returns c = law
