-- The ways out of the ports of a partition, one after another.
use Rattle.lone_partition.proofs.Prelude.{◌≡◌, ℕ, ◌+◌, ◌≤◌, List, [], ◌++◌, length, drop, Option, sym, ap, ◌∙◌, append-nil, drop_all, PartitionId, PortRow, ways_from}
use Rattle.module_meaning.specs.Table.{Channel}

module _ (channels : List Channel) (p : PartitionId) where
  -- no port remains
  pub all_ways : (ports : List PortRow) (i number : ℕ) (ways whole : List (Option (List ℕ))) → length ports ≤ i → ways ++ ways_from channels p number (drop i ports) ≡ whole → ways ≡ whole
  all_ways ports i number ways whole past so_far =
      sym (append-nil ways) ∙ ap (λ (rows : List PortRow). ways ++ ways_from channels p number rows) (sym (drop_all i ports past)) ∙ so_far
