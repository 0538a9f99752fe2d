use Rattle.std.proofs.Common.{◌≡◌, ◌≤◌, length, map}
use Rattle.std.specs.Prelude.{codes}
use Rattle.pal_laws.specs.GrammarReading as reading
use Rattle.pal_laws.proofs.Repeats.{after}
use Rattle.pal_base.specs.Reads.{and_more, up_to}
use Rattle.pal_base.specs.Seen.{seen}
use Rattle.pal_base.specs.View.{integer_of}
use Rattle.pal_base.proofs.source.Source.more_integers.Given as goal

abbrev pub invariant-loop-rest : goal.invariant-loop-rest
invariant-loop-rest l = (length l.rest ≤ length l.fn.tokens) × (and_more (integer_of l.fn.first) (up_to (codes ";") reading.integer_at (seen l.self l.fn.tokens)) ≡ after (map integer_of l.values.items) (up_to (codes ";") reading.integer_at (seen l.self l.rest)))

abbrev pub decreases-loop-rest : goal.decreases-loop-rest
decreases-loop-rest l = length l.rest
