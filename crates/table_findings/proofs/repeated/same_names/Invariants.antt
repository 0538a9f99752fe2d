use Rattle.std.proofs.Common.{◌≡◌, ◌++◌, drop, map}
use Rattle.table_findings.specs.Names.{same_from}
use Rattle.table_findings.specs.Views.{findings_of, named_of}
use Rattle.table_findings.proofs.repeated.same_names.Given as goal

abbrev pub invariant-loop-index : goal.invariant-loop-index
invariant-loop-index l =
    findings_of l.found.items ++ same_from (named_of l.named) (map (λ name. name.now) l.names) l.index (map (λ name. name.now) (drop l.index l.names))
    ≡ findings_of l.fn.found.items ++ same_from (named_of l.named) (map (λ name. name.now) l.names) 0 (map (λ name. name.now) l.names)
