use Rattle.std.proofs.Common.{◌≡◌, ◌≤◌, length, map}
use Rattle.std.specs.Prelude.{codes}
use Rattle.pal_laws.specs.GrammarReading as reading
use Rattle.pal_laws.proofs.Repeats.{after}
use Rattle.pal_base.specs.Reads.{listed}
use Rattle.pal_base.specs.Seen.{seen, names_of}
use Rattle.pal_base.specs.View.{process_of}
use Rattle.pal_base.proofs.source.Source.processes.Given as goal

abbrev pub invariant-loop-behind : goal.invariant-loop-behind
invariant-loop-behind l = (length l.rest ≤ length l.fn.tokens) × (listed (codes "process") reading.process_at (seen l.self l.fn.tokens) ≡ after (map (process_of (names_of l.self)) l.processes.items) (listed (codes "process") reading.process_at (seen l.self l.rest)))

abbrev pub decreases-loop-behind : goal.decreases-loop-behind
decreases-loop-behind l = length l.rest
