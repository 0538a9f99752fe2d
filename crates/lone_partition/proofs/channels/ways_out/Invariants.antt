use Rattle.lone_partition.proofs.Prelude.{◌≡◌, ◌+◌, ◌++◌, drop, channels_of, ways_from}
use Rattle.lone_partition.proofs.channels.ways_out.Given as goal

abbrev pub invariant-loop : goal.invariant-loop
invariant-loop l = record {
  number : l.number ≡ l.index + 1;
  so_far : l.ways.items ++ ways_from (channels_of l.channels) l.partition l.number (drop l.index l.ports) ≡ ways_from (channels_of l.channels) l.partition 1 l.ports;
}
