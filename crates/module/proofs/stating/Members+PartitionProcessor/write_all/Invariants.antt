use Rattle.module.proofs.Prelude.{◌≡◌, ◌++◌, drop, map, items_of, members_in}
use Rattle.partition_base.specs.contracts.machine.PartitionProcessorExecutor.TheImpl.{ghosts as machine}
use Rattle.state_rows.specs.Rows.{rows_in}
use Rattle.module.specs.Asked.{asked_rows}
use Rattle.module.specs.States.{rows_of_all}
use Rattle.module.proofs.stating.Members+PartitionProcessor.write_all.Given as goal

-- what is written so far, and what the rest adds
abbrev pub invariant-loop-place : goal.invariant-loop-place
invariant-loop-place l =
    l.text.items ++ rows_in l.form (rows_of_all (asked_rows (map (λ a. a.now) l.asked)) (drop l.place (items_of l.items)) (drop l.place (members_in machine l.self)))
    ≡ l.initial.text.items ++ rows_in l.form (rows_of_all (asked_rows (map (λ a. a.now) l.asked)) (items_of l.items) (members_in machine l.self))
