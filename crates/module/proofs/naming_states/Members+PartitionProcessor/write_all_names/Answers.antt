use Rattle.module.proofs.Prelude.{◌≤◌, ◌<◌, item_of, items_of, length, length-map, members_in, arith}
use Rattle.std.proofs.Common.{map}
use Rattle.state_view.specs.Sources.{source_in}
use Rattle.partition_base.specs.contracts.machine.PartitionProcessorExecutor.TheImpl.{ghosts as machine}
use Rattle.module.proofs.NamedStates.{names_done, names_more}
use Rattle.module.proofs.naming_states.Members+PartitionProcessor.write_all_names.Goals as goal

pub loop-place-preserved : goal.loop-place-preserved
loop-place-preserved c =
    let items = items_of c.args.items.now in
    let count = length-map c.args.items.now item_of in
    let within : c.loop-place.place < length items = omega (arith, c.loop-place-test.true, count) in
    names_more c.args.form items (map source_in c.args.sources.now) (members_in machine c.args.self.now) (length items) c.loop-place.place c.loop-place.text.items c.write_names_at.new.text.items _
    within c.in_ok-write_names_at.ensures c.loop-place.invariant

pub returns : goal.returns
returns c =
    let items = items_of c.args.items.now in
    let count = length-map c.args.items.now item_of in
    let done : length items ≤ c.loop-place.place = omega (arith, c.loop-place-test.false, count) in
    names_done c.args.form items (map source_in c.args.sources.now) (members_in machine c.args.self.now) (length items) c.loop-place.place c.loop-place.text.items _ done c.loop-place.invariant
