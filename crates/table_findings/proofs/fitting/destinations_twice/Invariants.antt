use Rattle.std.proofs.Common.{◌≡◌, ◌++◌, drop, map}
use Rattle.table_findings.specs.Ends.{destinations_twice}
use Rattle.table_findings.specs.Views.{findings_of, row_of}
use Rattle.table_findings.proofs.fitting.destinations_twice.Given as goal

abbrev pub invariant-loop-index : goal.invariant-loop-index
invariant-loop-index l =
    (findings_of l.found.items ++ destinations_twice (map (λ text. text.now) l.seen.items) (row_of l.row) l.index (map (λ text. text.now) (drop l.index l.ends))
    ≡ findings_of l.fn.found.items ++ destinations_twice (map (λ text. text.now) l.fn.seen.items) (row_of l.row) 0 (map (λ text. text.now) l.ends))
    × (map (λ text. text.now) l.seen.items ++ map (λ text. text.now) (drop l.index l.ends) ≡ map (λ text. text.now) l.fn.seen.items ++ map (λ text. text.now) l.ends)
