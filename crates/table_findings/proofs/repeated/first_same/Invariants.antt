use Rattle.std.proofs.Common.{◌≡◌, drop, map}
use Rattle.table_findings.specs.Names.{first_same}
use Rattle.table_findings.proofs.repeated.first_same.Given as goal

abbrev pub invariant-loop-index : goal.invariant-loop-index
invariant-loop-index l = first_same l.name l.index (map (λ name. name.now) (drop l.index l.names)) ≡ first_same l.name 0 (map (λ name. name.now) l.names)
