use Rattle.std.proofs.Common.{rules}
use Rattle.std.proofs.lemmas.List.Sorted.{IsNonDecreasingBy-from_sort_by_key}
use Rattle.wave_dump.proofs.change.in_order.Goals as goal

-- src/change.rt
pub returns-clause-sorted : goal.returns-clause-sorted
returns-clause-sorted c = IsNonDecreasingBy-from_sort_by_key (λ change. change.tick.0) _ c.in_ok-sort_by_key.ensures.sorted (λ a r q k. search rules)
