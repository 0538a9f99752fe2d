use Rattle.module.proofs.Prelude.{rules, map, ◌≡◌, ◌≤◌, ◌<◌, ◌+◌, ◌++◌, Option, Some, OnOk, length, members_in, item_of, items_of, member_of, Item, Member, MachineControl, refl, sym, ap, ◌∙◌, arith, slice_get, slice_get-get_or, slice_get-map}
use Rattle.std.proofs.Common.{option_map, subst}
use Rattle.std.proofs.lemmas.Option.{slice_get_read}
use Rattle.partition_base.specs.contracts.machine.PartitionProcessorExecutor.TheImpl.{ghosts as machine}
use Rattle.module.specs.Asked.{asked_rows}
use Rattle.module.specs.States.{rows_of_both}
use Rattle.module.proofs.Members.{get_member, no_member, same_length}
use Rattle.module.proofs.Stated.{no_member_rows, none_written}
use Rattle.state_rows.specs.Rows.{rows_in}
use Rattle.module.proofs.stating.Members+PartitionProcessor.write_at.Goals as goal

pub returns-then-place-len : goal.returns-then-place-len
returns-then-place-len c =
    let place = c.args.place in
    let rows = asked_rows (map (λ a. a.now) c.args.asked.now) in
    let items = items_of c.args.items.now in
    let members = members_in machine c.args.self.now in
    let ps = c.args.self.now.partitions.items in
    let behind : length ps ≤ place = search rules in
    none_written c.args.form (rows_of_both rows (slice_get items place) (slice_get members place)) c.args.text.now.items
    (no_member_rows rows (slice_get items place) (slice_get members place) (no_member machine ps c.args.self.now.memory place behind))

pub part-memory-requires : goal.part-memory-requires
part-memory-requires c =
    let ps = c.args.self.now.partitions.items in
    let memory = c.args.self.now.memory in
    let same : length ps ≡ length memory = same_length machine ps memory c.args.self.now.fit in
    let within : c.args.place < length ps = search rules in
    rw c.number_at.ensures.number (omega arith, omega arith)

pub returns : goal.returns
returns c =
    let place = c.args.place in
    let rows = asked_rows (map (λ a. a.now) c.args.asked.now) in
    let items = items_of c.args.items.now in
    let members = members_in machine c.args.self.now in
    let ps = c.args.self.now.partitions.items in
    let p = c.index-partition.result.now in
    let i = c.index-items-place.result in
    let s = c.part-memory.result.now in
    let old = c.args.text.now.items in
    let new = c.write_asked.new.text.items in
    let answer = c.write_asked.result in
    let here : slice_get ps place ≡ Some p = search (rules, slice_get-get_or) in
    let within : place < length c.args.items.now = omega (arith, c.if-place-items.false) in
    let there : slice_get c.args.items.now place ≡ Some i = slice_get_read c.args.items.now _ place i refl within c.index-items-place.is in
    let item : slice_get items place ≡ Some (item_of i) = slice_get-map item_of c.args.items.now place ∙ ap (option_map item_of) there in
    let member : slice_get members place ≡ Some (member_of machine p s) = get_member machine ps c.args.self.now.memory place p s here (rw c.number_at.ensures.place at c.part-memory.ensures) in
    subst (λ (o : Option Item). OnOk answer (new ≡ old ++ rows_in c.args.form (rows_of_both rows o (slice_get members place)))) (sym item)
    (subst (λ (o : Option (Member MachineControl)). OnOk answer (new ≡ old ++ rows_in c.args.form (rows_of_both rows (Some (item_of i)) o))) (sym member) c.write_asked.ensures)
