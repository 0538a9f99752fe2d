use Rattle.std.proofs.Common.{◌≡◌, ◌+◌, List, ℕ, ◌++◌, drop, flat_map, map, ap}
use Rattle.image.specs.Items.{item_of}
use Rattle.image.specs.Views.{image_of}
use Rattle.image.specs.declared.item.PartitionItem.{PartitionItem}
use Rattle.command_line.specs.Code.{code_text, partition_text}
use Rattle.command_line.proofs.UnderWay.{cut_off, goes_on, next_of}
use Rattle.command_line.proofs.listing.code.write_code.Goals as goal

abbrev text_of : List PartitionItem → List ℕ
text_of items = flat_map partition_text (map item_of items)

pub returns-in_err-write_partition : goal.returns-in_err-write_partition
returns-in_err-write_partition g c =
    let items = c.deref-item-items.result.now in
    let i = c.loop-item.item-index in
    let part = partition_text (item_of c.item-item.result) in
    let rest = text_of (drop (i + 1) items) in
    let split : text_of (drop i items) ≡ part ++ rest = ap text_of (next_of items i c.item-item.result c.loop-item-test.true c.item-item.is) in
    cut_off (code_text (image_of c.args.image.now)) (text_of (drop i items)) part rest _ _ _ _ _ _ c.from_residual.result split c.loop-item.invariant c.in_err-write_partition.ensures c.from_residual.ensures.0

pub loop-item-preserved : goal.loop-item-preserved
loop-item-preserved g c =
    let items = c.deref-item-items.result.now in
    let i = c.loop-item.item-index in
    let part = partition_text (item_of c.item-item.result) in
    let rest = text_of (drop (i + 1) items) in
    let split : text_of (drop i items) ≡ part ++ rest = ap text_of (next_of items i c.item-item.result c.loop-item-test.true c.item-item.is) in
    goes_on (code_text (image_of c.args.image.now)) (text_of (drop i items)) part rest _ _ _ _ _ _ split c.loop-item.invariant c.in_ok-write_partition.ensures
