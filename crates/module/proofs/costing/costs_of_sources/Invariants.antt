use Rattle.module.proofs.Prelude.{◌≡◌, ◌+◌, map, take, length, partition_of, AreCostsOf}
use Rattle.module.proofs.costing.costs_of_sources.Given as goal

abbrev pub invariant-loop-source : goal.invariant-loop-source
invariant-loop-source l = record {
  place : l.place ≡ length l.yielded;
  left : l.place + length l.source-iterator.rest.items ≡ length l.rows;
  costed : AreCostsOf l.costs (map partition_of (take l.place l.rows)) l.yielded l.reports.items;
}
