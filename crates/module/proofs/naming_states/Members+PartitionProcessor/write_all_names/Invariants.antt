use Rattle.module.proofs.Prelude.{◌≡◌, ◌++◌, items_of, length, members_in}
use Rattle.std.proofs.Common.{◌-◌, map}
use Rattle.state_view.specs.Sources.{source_in}
use Rattle.partition_base.specs.contracts.machine.PartitionProcessorExecutor.TheImpl.{ghosts as machine}
use Rattle.state_rows.specs.Rows.{rows_in}
use Rattle.module.specs.NamedStates.{names_from}
use Rattle.module.proofs.naming_states.Members+PartitionProcessor.write_all_names.Given as goal

-- what is written so far, and what the rest adds
abbrev pub invariant-loop-place : goal.invariant-loop-place
invariant-loop-place l =
    let names = names_from (items_of l.items) (map source_in l.sources) (members_in machine l.self) in
    l.text.items ++ rows_in l.form (names (length (items_of l.items) - l.place) l.place) ≡ l.initial.text.items ++ rows_in l.form (names (length (items_of l.items)) 0)
