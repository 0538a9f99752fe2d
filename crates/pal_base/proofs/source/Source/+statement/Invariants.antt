use Rattle.std.proofs.Common.{◌≤◌, length, map, ◌≡◌, ◌+◌, ◌*◌}
use Rattle.std.specs.Prelude.{codes}
use Rattle.pal_laws.specs.GrammarReading as reading
use Rattle.pal_laws.proofs.Repeats.{after}
use Rattle.pal_base.specs.Reads.{up_to}
use Rattle.pal_base.specs.Seen.{seen, names_of}
use Rattle.pal_base.specs.View.{stmt_of}
use Rattle.pal_base.proofs.source.Source.+statement.Given as goal

abbrev pub decreases-block : goal.decreases-block
decreases-block l = 5 * l.levels

abbrev pub decreases-branch : goal.decreases-branch
decreases-branch l = 5 * l.levels + 1

abbrev pub decreases-repetition : goal.decreases-repetition
decreases-repetition l = 5 * l.levels + 1

abbrev pub decreases-statement_kind : goal.decreases-statement_kind
decreases-statement_kind l = 5 * l.levels + 2

abbrev pub decreases-statement : goal.decreases-statement
decreases-statement l = 5 * l.levels + 3

abbrev pub decreases-statements : goal.decreases-statements
decreases-statements l = 5 * l.levels + 4

abbrev pub invariant-statements-loop-alloc : goal.invariant-statements-loop-alloc
invariant-statements-loop-alloc l =
    (length l.rest ≤ length l.fn.tokens)
    × (up_to (codes "}") (reading.stmt_at l.levels) (seen l.self l.fn.tokens) ≡ after (map (stmt_of (names_of l.self)) l.statements.items) (up_to (codes "}") (reading.stmt_at l.levels) (seen l.self l.rest)))

abbrev pub decreases-statements-loop-alloc : goal.decreases-statements-loop-alloc
decreases-statements-loop-alloc l = length l.rest
