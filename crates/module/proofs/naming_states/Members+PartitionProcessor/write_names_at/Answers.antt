use Rattle.module.proofs.Prelude.{rules, ◌≡◌, ◌≤◌, ◌<◌, ◌+◌, ◌++◌, Option, Some, None, OnOk, length, length-map, members_in, item_of, items_of, member_of, Item, Member, MachineControl, refl, sym, ap, ◌∙◌, arith, slice_get, slice_get-get_or, slice_get-map}
use Rattle.std.proofs.Common.{map, option_map, subst}
use Rattle.std.proofs.lemmas.Option.{slice_get_past, slice_get_read}
use Rattle.partition_base.specs.contracts.machine.PartitionProcessorExecutor.TheImpl.{ghosts as machine}
use Rattle.module.specs.NamedStates.{names_of_all}
use Rattle.module.proofs.Members.{get_member, no_member, same_length}
use Rattle.module.proofs.NamedStates.{no_item_names, no_member_names, no_tree_names}
use Rattle.module.proofs.Stated.{none_written}
use Rattle.state_rows.specs.Named.{Source}
use Rattle.state_rows.specs.Rows.{rows_in}
use Rattle.state_view.specs.Sources.{source_in}
use Rattle.module.proofs.naming_states.Members+PartitionProcessor.write_names_at.Goals as goal

pub returns-then-place-items : goal.returns-then-place-items
returns-then-place-items c =
    let place = c.args.place in
    let items = items_of c.args.items.now in
    let sources = map source_in c.args.sources.now in
    let members = members_in machine c.args.self.now in
    let past : length items ≤ place = omega (arith, c.if-place-items.true, length-map c.args.items.now item_of) in
    none_written c.args.form (names_of_all (slice_get items place) (slice_get sources place) (slice_get members place)) c.args.text.now.items
    (no_item_names (slice_get items place) (slice_get sources place) (slice_get members place) (slice_get_past items place past))

pub returns-then-place-sources : goal.returns-then-place-sources
returns-then-place-sources c =
    let place = c.args.place in
    let items = items_of c.args.items.now in
    let sources = map source_in c.args.sources.now in
    let members = members_in machine c.args.self.now in
    let past : length sources ≤ place = omega (arith, c.if-place-sources.true, length-map c.args.sources.now source_in) in
    none_written c.args.form (names_of_all (slice_get items place) (slice_get sources place) (slice_get members place)) c.args.text.now.items
    (no_tree_names (slice_get items place) (slice_get sources place) (slice_get members place) (slice_get_past sources place past))

pub returns-then-place-len : goal.returns-then-place-len
returns-then-place-len c =
    let place = c.args.place in
    let items = items_of c.args.items.now in
    let sources = map source_in c.args.sources.now in
    let members = members_in machine c.args.self.now in
    let ps = c.args.self.now.partitions.items in
    let past : length ps ≤ place = search rules in
    none_written c.args.form (names_of_all (slice_get items place) (slice_get sources place) (slice_get members place)) c.args.text.now.items
    (no_member_names (slice_get items place) (slice_get sources place) (slice_get members place) (no_member machine ps c.args.self.now.memory place past))

pub part-memory-requires : goal.part-memory-requires
part-memory-requires c =
    let ps = c.args.self.now.partitions.items in
    let memory = c.args.self.now.memory in
    let same : length ps ≡ length memory = same_length machine ps memory c.args.self.now.fit in
    let within : c.args.place < length ps = search rules in
    rw c.number_at.ensures.number (omega arith, omega arith)

pub returns : goal.returns
returns c =
    let place = c.args.place in
    let items = items_of c.args.items.now in
    let sources = map source_in c.args.sources.now in
    let members = members_in machine c.args.self.now in
    let ps = c.args.self.now.partitions.items in
    let p = c.index-partition.result.now in
    let i = c.index-items-place.result in
    let t = c.index-sources-place.result in
    let s = c.part-memory.result.now in
    let old = c.args.text.now.items in
    let new = c.write_names.new.text.items in
    let answer = c.write_names.result in
    let here : slice_get ps place ≡ Some p = search (rules, slice_get-get_or) in
    let within : place < length c.args.items.now = omega (arith, c.if-place-items.false) in
    let there : slice_get c.args.items.now place ≡ Some i = slice_get_read c.args.items.now _ place i refl within c.index-items-place.is in
    let item : slice_get items place ≡ Some (item_of i) = slice_get-map item_of c.args.items.now place ∙ ap (option_map item_of) there in
    let among : place < length c.args.sources.now = omega (arith, c.if-place-sources.false) in
    let found : slice_get c.args.sources.now place ≡ Some t = slice_get_read c.args.sources.now _ place t refl among c.index-sources-place.is in
    let source : slice_get sources place ≡ Some (source_in t) = slice_get-map source_in c.args.sources.now place ∙ ap (option_map source_in) found in
    let member : slice_get members place ≡ Some (member_of machine p s) = get_member machine ps c.args.self.now.memory place p s here (rw c.number_at.ensures.place at c.part-memory.ensures) in
    subst (λ (o : Option Item). OnOk answer (new ≡ old ++ rows_in c.args.form (names_of_all o (slice_get sources place) (slice_get members place)))) (sym item)
    (subst (λ (o : Option Source). OnOk answer (new ≡ old ++ rows_in c.args.form (names_of_all (Some (item_of i)) o (slice_get members place)))) (sym source)
    (subst (λ (o : Option (Member MachineControl)). OnOk answer (new ≡ old ++ rows_in c.args.form (names_of_all (Some (item_of i)) (Some (source_in t)) o))) (sym member) c.write_names.ensures))
