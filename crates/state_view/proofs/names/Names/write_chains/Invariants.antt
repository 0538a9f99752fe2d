use Rattle.std.proofs.Common.{◌≡◌, ◌++◌, drop}
use Rattle.state_view.specs.Sources.{source_in}
use Rattle.partition_base.specs.Machines.{controls_of}
use Rattle.state_rows.specs.Named.{runner_names}
use Rattle.state_rows.specs.Rows.{rows_in}
use Rattle.state_rows.specs.States.{placed, placed_from}
use Rattle.state_view.proofs.names.Names.write_chains.Given as goal

-- what is written so far, and what the rest adds
abbrev pub invariant-loop-place : goal.invariant-loop-place
invariant-loop-place l =
    let rows = runner_names l.self.of.now.name l.self.routines.now (source_in l.self.source.now) (controls_of l.processor l.memory) in
    l.text.items ++ rows_in l.self.of.now.form (placed_from rows l.place (drop l.place l.rows)) ≡ l.initial.text.items ++ rows_in l.self.of.now.form (placed rows l.rows)
