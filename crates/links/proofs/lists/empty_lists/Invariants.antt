use Rattle.links.proofs.Prelude.{◌≡◌, [], map, replicate, entries_of}
use Rattle.links.proofs.lists.empty_lists.Given as goal

abbrev pub invariant-loop : goal.invariant-loop
invariant-loop l = map entries_of l.lists.items ≡ replicate l.counter []
