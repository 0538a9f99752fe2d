use Rattle.lone_partition.proofs.Prelude.{rules, ◌≡◌, ◌-◌, List, suc, Some, ap, ◌∙◌, arith, slice_get, slice_get-get_or, Costs, PortRow, machine_member, machine_module, item_of, image_of, surroundings_of, member_of, view, machine, Space, around, only_part}
use Rattle.lone_partition.proofs.Loaded.{alone_is, item_here}
use Rattle.lone_partition.proofs.lone.LonePartition.load.Goals as goal

pub returns : goal.returns
returns c =
    let image = image_of c.args.image.now in
    let items = c.args.image.now.partitions.items in
    let number = c.args.number.0 in
    let item = c.index-item.result.now in
    let partition = c.in_ok-partition.partition in
    let memory = c.in_ok-memory.memory in
    let next : number ≡ suc (number - 1) = omega arith in
    let here : slice_get items (number - 1) ≡ Some item = search (rules, slice_get-get_or) in
    let surroundings = c.in_ok-surroundings.ensures ∙ ap (λ (rows : List PortRow). surroundings_of (machine_module image).plan number rows) c.deref.ensures.value in
    let member = ap (λ (m : List Space). member_of machine partition (only_part m)) c.in_ok-memory.ensures ∙ c.in_ok-partition.ensures.member
    ∙ ap (λ (costs : Costs). machine_member costs (view c.in_ok-fixed.fixed) (item_of item).partition.ports (item_of item).section) c.costs.ensures in
    alone_is image number (item_of item) (around c.in_ok-surroundings.surroundings) (member_of machine partition (only_part memory)) (view c.in_ok-fixed.fixed) (item_here items (number - 1) number item next here) surroundings member c.in_ok-fixed.ensures
