use Rattle.std.proofs.Common.{◌≤◌, length, map, ◌≡◌, ◌+◌, ◌*◌}
use Rattle.std.specs.Prelude.{codes}
use Rattle.pal_laws.specs.GrammarReading as reading
use Rattle.pal_laws.proofs.Repeats.{after}
use Rattle.pal_base.specs.Reads.{and_more, listed}
use Rattle.pal_base.specs.Rows.{pair_of}
use Rattle.pal_base.specs.Seen.{seen, names_of, rank_of, looseness}
use Rattle.pal_base.specs.View.{expr_of}
use Rattle.pal_base.proofs.source.Source.+expression.Given as goal

abbrev pub decreases-arguments : goal.decreases-arguments
decreases-arguments l = 24 * l.levels

abbrev pub decreases-more_arguments : goal.decreases-more_arguments
decreases-more_arguments l = 24 * l.levels + 23

abbrev pub decreases-nested : goal.decreases-nested
decreases-nested l = 24 * l.levels

abbrev pub decreases-operated : goal.decreases-operated
decreases-operated l = 24 * l.levels

abbrev pub decreases-named : goal.decreases-named
decreases-named l = 24 * l.levels + 1

abbrev pub decreases-unary : goal.decreases-unary
decreases-unary l = 24 * l.levels + 2

abbrev pub decreases-operand : goal.decreases-operand
decreases-operand l = 24 * l.levels + 4 * looseness l.rank + 3

abbrev pub decreases-links : goal.decreases-links
decreases-links l = 24 * l.levels + 4 * looseness l.rank + 5

abbrev pub decreases-one_link : goal.decreases-one_link
decreases-one_link l = 24 * l.levels + 12

abbrev pub decreases-chain : goal.decreases-chain
decreases-chain l = 24 * l.levels + 4 * looseness l.rank + 6

abbrev pub decreases-all_links : goal.decreases-all_links
decreases-all_links l = 24 * l.levels + 4 * looseness l.rank + 4

abbrev pub invariant-more_arguments-loop-behind : goal.invariant-more_arguments-loop-behind
invariant-more_arguments-loop-behind l =
    (length l.rest ≤ length l.fn.tokens)
    × (and_more (expr_of (names_of l.self) l.fn.first) (listed (codes ",") (reading.expr_at l.levels) (seen l.self l.fn.tokens))
    ≡ after (map (expr_of (names_of l.self)) l.arguments.items) (listed (codes ",") (reading.expr_at l.levels) (seen l.self l.rest)))

abbrev pub decreases-more_arguments-loop-behind : goal.decreases-more_arguments-loop-behind
decreases-more_arguments-loop-behind l = length l.rest

abbrev pub invariant-all_links-loop-operator : goal.invariant-all_links-loop-operator
invariant-all_links-loop-operator l =
    (length l.rest ≤ length l.fn.tokens)
    × (reading.repeat (reading.link_at (reading.operand_with (reading.unary_at l.levels) (rank_of l.rank)) (rank_of l.rank)) (seen l.self l.fn.tokens)
    ≡ after (map (pair_of (names_of l.self)) l.links.items) (reading.repeat (reading.link_at (reading.operand_with (reading.unary_at l.levels) (rank_of l.rank)) (rank_of l.rank)) (seen l.self l.rest)))

abbrev pub decreases-all_links-loop-operator : goal.decreases-all_links-loop-operator
decreases-all_links-loop-operator l = length l.rest
