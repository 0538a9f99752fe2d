use Rattle.std.proofs.Common.{◌≡◌, drop, map}
use Rattle.pal_base.specs.View.{declaration_of}
use Rattle.source_findings.specs.Bodies as spec
use Rattle.source_findings.specs.Tally.{no_tally}
use Rattle.source_findings.specs.Views.{entries_of, judge_of, names_of, state_of, tally_of}
use Rattle.source_findings.proofs.declarations.declarations.Given as goal

abbrev pub invariant-loop-it : goal.invariant-loop-it
invariant-loop-it l =
    (spec.declarations (judge_of l.judge) (entries_of l.before.items) (tally_of l.tally) (map (declaration_of (names_of l.judge)) (drop l.it-index l.list)) (state_of l.walk)
    ≡ spec.declarations (judge_of l.judge) (entries_of l.fn.before.items) no_tally (map (declaration_of (names_of l.judge)) l.list) (state_of l.fn.walk))
    × (spec.all_before (entries_of l.before.items) (map (declaration_of (names_of l.judge)) (drop l.it-index l.list))
    ≡ spec.all_before (entries_of l.fn.before.items) (map (declaration_of (names_of l.judge)) l.list))
