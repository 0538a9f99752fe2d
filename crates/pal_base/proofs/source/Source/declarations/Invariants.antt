use Rattle.std.proofs.Common.{◌≡◌, ◌≤◌, length, map}
use Rattle.std.specs.Prelude.{codes}
use Rattle.pal_laws.specs.GrammarReading as reading
use Rattle.pal_laws.proofs.Repeats.{after}
use Rattle.pal_base.specs.Reads.{up_to}
use Rattle.pal_base.specs.Seen.{seen, names_of}
use Rattle.pal_base.specs.View.{declaration_of}
use Rattle.pal_base.proofs.source.Source.declarations.Given as goal

abbrev pub invariant-loop-alloc : goal.invariant-loop-alloc
invariant-loop-alloc l = (length l.rest ≤ length l.fn.tokens) × (up_to (codes "init") reading.declaration_at (seen l.self l.fn.tokens) ≡ after (map (declaration_of (names_of l.self)) l.declarations.items) (up_to (codes "init") reading.declaration_at (seen l.self l.rest)))

abbrev pub decreases-loop-alloc : goal.decreases-loop-alloc
decreases-loop-alloc l = length l.rest
