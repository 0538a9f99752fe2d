use Rattle.std.proofs.Common.{◌≡◌, drop, map}
use Rattle.table_findings.specs.Names.{is_among}
use Rattle.table_findings.proofs.unknown.is_among.Given as goal

abbrev pub invariant-loop-other : goal.invariant-loop-other
invariant-loop-other l = is_among l.name (map (λ name. name.now) l.names) ≡ is_among l.name (map (λ name. name.now) (drop l.other-index l.names))
