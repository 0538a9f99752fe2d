-- A memory with the layout of a machine.
use Rattle.std.proofs.Common.{◌≡◌, length, map}
use Rattle.regions.specs.Space.{Space}
use Rattle.partition_base.specs.Machines.{layout_of, laid_of, bodies_in}
use Rattle.partition_base.specs.Slots.{stack_lengths, stack_of_body}
use Rattle.partition_base.specs.declared.machine.PartitionProcessor.{PartitionProcessor}

pub as_many_words : (m : PartitionProcessor) (s : Space) → laid_of s ≡ layout_of m → length s.words ≡ length m.initial.items
as_many_words m s e = cc

pub same_stacks : (m : PartitionProcessor) (s : Space) → laid_of s ≡ layout_of m → stack_lengths s ≡ map stack_of_body (bodies_in m)
same_stacks m s e = cc

pub ruleset layouts = (as_many_words, same_stacks)
