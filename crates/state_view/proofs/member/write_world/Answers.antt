-- the kernel, the data, and those that have something left to do
use Rattle.std.proofs.Common.{◌≡◌, ◌++◌, ◌∙◌, List, ap, subst}
use Rattle.apex_types.specs.declared.process.ProcessStatus.{ProcessStatus}
use Rattle.partition_base.specs.Machines.{controls_of}
use Rattle.state_rows.specs.Rows.{rows_in}
use Rattle.state_rows.specs.States.{data_rows, kernel_rows, placed, runner_rows}
use Rattle.state_view.proofs.Loops.{lists}
use Rattle.state_view.proofs.member.write_world.Goals as goal

pub returns : goal.returns
returns c =
    let form = c.args.of.now.form in
    let name = c.args.of.now.name in
    let runners = runner_rows name c.args.code.now (controls_of c.args.processor.now c.args.memory.now) in
    let is_written : List ProcessStatus → Type 0 = λ rows. c.write_runners.new.text.items ≡ c.write_data.new.text.items ++ rows_in form (placed runners rows) in
    let records : c.rows-rows.result.now ≡ c.args.kernel.now.processes.rows = c.rows-rows.ensures.all ∙ ap (λ s. s.rows) c.processes-processes.ensures in
    lists form (kernel_rows name c.args.kernel.now) (data_rows name c.args.memory.now.words) (placed runners c.args.kernel.now.processes.rows) _ _ _ _ c.in_ok-write_kernel.ensures c.in_ok-write_data.ensures (subst is_written records c.in_ok-write_runners.ensures)
