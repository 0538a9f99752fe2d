use Rattle.module.proofs.Prelude.{rules, ◌≡◌, ◌<◌, ◌+◌, List, ◌++◌, ◌∷◌, drop, take, length, get_or, map, ap, sym, ◌∙◌, arith, drop_more, take_more, map-append, fixed_of, machine_member, machine_members, item_of, items_of, partition_of, PartitionItem, member_of, machine, schedule_of, fresh_item, members_of, AreFitting}
use Rattle.std.proofs.Common.{[], subst}
use Rattle.image.specs.Items.{section_of}
use Rattle.lone_partition.proofs.Lawful.{item_fits_here}
use Rattle.module.proofs.Built.{one_longer}
use Rattle.module.proofs.Loaded.{one_more_loaded}
use Rattle.module.proofs.Members.{one_more_member, one_more_fits}
use Rattle.module.proofs.load.load_partitions.Goals as goal

pub load_partition-requires : goal.load_partition-requires
load_partition-requires c =
    let i = c.loop-item.item-index in
    let item = c.item-item.result in
    let same = c.as_slice-items.ensures.value in
    item_fits_here c.args.image.now i item (subst (λ (xs : List PartitionItem). i < length xs) same c.loop-item-test.true) (c.item-item.is ∙ ap (λ (xs : List PartitionItem). get_or xs i item) same)

pub loop-item-preserved : goal.loop-item-preserved
loop-item-preserved c =
    let i = c.loop-item.item-index in
    let items = c.as_slice-items.result.now in
    let item = c.item-item.result in
    let before = c.loop-item.partitions.items in
    let p = c.in_ok-load_partition.field-0 in
    let fresh = map fresh_item (take i items) in
    let left : drop i items ≡ item ∷ drop (i + 1) items = drop_more items i item c.loop-item-test.true ∙ ap (λ (x : PartitionItem). x ∷ drop (i + 1) items) (sym c.item-item.is) in
    let here : take (i + 1) items ≡ take i items ++ item ∷ [] = take_more items i item c.loop-item-test.true ∙ ap (λ (x : PartitionItem). take i items ++ x ∷ []) (sym c.item-item.is) in
    let more : map fresh_item (take (i + 1) items) ≡ fresh ++ fresh_item item ∷ [] = ap (λ xs. map fresh_item xs) here ∙ map-append fresh_item (take i items) (item ∷ []) in
    let so_far = rw left at c.loop-item.invariant.members in
    let next : c.push.new.self.items ≡ before ++ p ∷ [] = search rules in
    let pushed : members_of machine c.push.new.self.items (map fresh_item (take (i + 1) items)) ≡ members_of machine before fresh ++ member_of machine p (fresh_item item) ∷ [] =
    ap (λ ps. members_of machine ps (map fresh_item (take (i + 1) items))) next
    ∙ ap (λ ss. members_of machine (before ++ p ∷ []) ss) more
    ∙ one_more_member machine before fresh p (fresh_item item) c.loop-item.invariant.fit in
    let fits : AreFitting machine (before ++ p ∷ []) (fresh ++ fresh_item item ∷ []) = one_more_fits machine before fresh p (fresh_item item) c.loop-item.invariant.fit c.in_ok-load_partition.ensures.fits in
    let same : member_of machine p (fresh_item item) ≡ machine_member c.costs-costs.result (fixed_of (schedule_of c.args.image.now.schedule) c.loop-item.number (partition_of item.row)) item.row.ports.items (section_of item.section) = search rules in
    record {
      number = omega arith;
      count = one_longer before p i c.loop-item.invariant.count ∙ ap length (sym next);
      fit = subst (λ ps. AreFitting machine ps (map fresh_item (take (i + 1) items))) (sym next) (subst (λ ss. AreFitting machine (before ++ p ∷ []) ss) (sym more) fits);
      members = one_more_loaded c.costs-costs.result (schedule_of c.args.image.now.schedule) c.loop-item.number (members_of machine before fresh) (members_of machine c.push.new.self.items (map fresh_item (take (i + 1) items))) (machine_members c.costs-costs.result (schedule_of c.args.image.now.schedule) 1 (items_of items)) (member_of machine p (fresh_item item)) (item_of item) (items_of (drop (i + 1) items)) pushed same so_far;
    }
