use Rattle.std.proofs.Common.{◌≡◌, length}
use Rattle.pal_laws.specs.GrammarReading.{one_of, operator_at}
use Rattle.pal_base.specs.Seen.{seen, rank_of}
use Rattle.pal_base.proofs.source.Source.operator_at.Given as goal

abbrev pub invariant-loop-operator : goal.invariant-loop-operator
invariant-loop-operator l = operator_at (rank_of l.fn.rank) (seen l.fn.self l.tokens) ≡ one_of l.operators (seen l.fn.self l.tokens)

abbrev pub decreases-loop-operator : goal.decreases-loop-operator
decreases-loop-operator l = length l.operators
