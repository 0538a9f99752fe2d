use Rattle.std.proofs.Common.{◌≡◌, ◌++◌, drop, map}
use Rattle.view_command.specs.Windows.{names_of}
use Rattle.view_command.proofs.windows.names.Given as goal

-- the names so far, and those of the rest, are all
abbrev pub invariant-loop-partition : goal.invariant-loop-partition
invariant-loop-partition l = l.names.items ++ map (λ p. p.name) (drop l.partition-index l.table.partitions.items) ≡ names_of l.table
