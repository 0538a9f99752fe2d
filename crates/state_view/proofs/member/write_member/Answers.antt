-- the rows of a partition are those of its kernel, its processor and its memory
use Rattle.std.proofs.Common.{◌≡◌, ◌++◌, ◌∙◌, ℕ, List, ap, subst}
use Rattle.std.specs.Prelude.{OnOk}
use Rattle.kernel_meaning.specs.Kernel.{Kernel}
use Rattle.partition_base.specs.Machines.{controls_of}
use Rattle.partition_base.specs.declared.machine.PartitionProcessor.{PartitionProcessor}
use Rattle.state_rows.specs.Rows.{rows_in}
use Rattle.state_rows.specs.States.{world_rows}
use Rattle.state_view.proofs.member.write_member.Goals as goal

pub returns : goal.returns
returns c =
    let mem = c.args.memory.now in
    let is_written : List ℕ → List (List ℕ) → Kernel → PartitionProcessor → Type 0 = λ p code k e. OnOk c.write_world.result (c.write_world.new.text.items ≡ c.args.text.now.items ++ rows_in c.args.form (world_rows p code k mem.words (controls_of e mem))) in
    let named : c.name-name.result ≡ c.args.partition.now.kernel.fixed.name = c.name-name.ensures ∙ ap (λ (k : Kernel). k.fixed.name) c.kernel-kernel.ensures in
    subst (λ (p : List ℕ). is_written p c.args.item.now.section.code.items c.args.partition.now.kernel c.args.partition.now.executor) named
    (subst (λ (k : Kernel). is_written c.name-name.result c.args.item.now.section.code.items k c.args.partition.now.executor) c.kernel-kernel.ensures
    (subst (λ (e : PartitionProcessor). is_written c.name-name.result c.args.item.now.section.code.items c.kernel-kernel.result.now e) c.executor-processor.ensures
    (subst (λ (code : List (List ℕ)). is_written c.name-name.result code c.kernel-kernel.result.now c.executor-processor.result.now) c.as_slice-code.ensures.value c.write_world.ensures)))
