use Rattle.module.proofs.Prelude.{rules, ◌≡◌, ◌++◌, List, OnOk, items_of, image_of, members_in, at_number}
use Rattle.partition_base.specs.contracts.machine.PartitionProcessorExecutor.TheImpl.{ghosts as machine}
use Rattle.module.specs.Standing.{ticks_in}
use Rattle.module.specs.States.{rows_of_both}
use Rattle.std.proofs.Common.{subst}
use Rattle.module.proofs.Stated.{all_rows, both_written}
use Rattle.state_rows.specs.Rows.{Row, rows_in}
use Rattle.state_rows.specs.States.{member_rows, members_rows, module_rows}
use Rattle.module.proofs.machine.Machine.state.Goals as goal

pub returns-in-None : goal.returns-in-None
returns-in-None c =
    let m = c.args.self.now.module in
    let items = items_of m.image.partitions.items in
    let members = members_in machine m.members in
    rw c.in-None.is (both_written c.args.form (module_rows (image_of m.image) m.now.0 (ticks_in m.origin)) (members_rows items members) c.args.text.now.items c.write_module.new.text.items c.write_all.new.text.items c.write_all.result
    (search rules) (subst (λ (rows : List Row). OnOk c.write_all.result (c.write_all.new.text.items ≡ c.write_module.new.text.items ++ rows_in c.args.form rows)) (all_rows items members) (search rules)))

pub returns-in-Some : goal.returns-in-Some
returns-in-Some c =
    let m = c.args.self.now.module in
    let n = c.in-Some.number.0 in
    rw c.in-Some.is (both_written c.args.form (module_rows (image_of m.image) m.now.0 (ticks_in m.origin)) (rows_of_both member_rows (at_number (items_of m.image.partitions.items) n) (at_number (members_in machine m.members) n)) c.args.text.now.items c.write_module.new.text.items c.write_one.new.text.items c.write_one.result
    (search rules) (search rules))
