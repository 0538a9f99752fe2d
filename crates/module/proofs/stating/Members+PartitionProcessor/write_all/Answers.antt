use Rattle.module.proofs.Prelude.{rules, ◌≡◌, ◌≤◌, ◌<◌, ◌++◌, length, items_of, length-map, slice_get, map, members_in, arith}
use Rattle.partition_base.specs.contracts.machine.PartitionProcessorExecutor.TheImpl.{ghosts as machine}
use Rattle.image.specs.Items.{item_of}
use Rattle.module.specs.Asked.{asked_rows}
use Rattle.module.specs.States.{rows_of_both}
use Rattle.module.proofs.Stated.{written_all, written_more}
use Rattle.state_rows.specs.Rows.{rows_in}
use Rattle.module.proofs.stating.Members+PartitionProcessor.write_all.Goals as goal

pub loop-place-preserved : goal.loop-place-preserved
loop-place-preserved c =
    let rows = asked_rows (map (λ a. a.now) c.args.asked.now) in
    let items = items_of c.args.items.now in
    let members = members_in machine c.args.self.now in
    let place = c.loop-place.place in
    let count = length-map c.args.items.now item_of in
    let within : place < length items = omega (arith, c.loop-place-test.true, count) in
    let made : c.write_at.new.text.items ≡ c.loop-place.text.items ++ rows_in c.args.form (rows_of_both rows (slice_get items place) (slice_get members place)) = search rules in
    written_more rows c.args.form items members place c.loop-place.text.items c.write_at.new.text.items _ within made c.loop-place.invariant

pub returns : goal.returns
returns c =
    let rows = asked_rows (map (λ a. a.now) c.args.asked.now) in
    let items = items_of c.args.items.now in
    let count = length-map c.args.items.now item_of in
    let done : length items ≤ c.loop-place.place = omega (arith, c.loop-place-test.false, count) in
    written_all rows c.args.form items (members_in machine c.args.self.now) c.loop-place.place c.loop-place.text.items _ done c.loop-place.invariant
