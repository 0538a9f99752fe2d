use Rattle.module.proofs.Prelude.{rules, map, ◌≡◌, ◌++◌, ℕ, Option, Some, OnOk, place_of_number, items_of, members_in, Item, Member, MachineControl, at_number, sym, slice_get}
use Rattle.std.proofs.Common.{subst}
use Rattle.partition_base.specs.contracts.machine.PartitionProcessorExecutor.TheImpl.{ghosts as machine}
use Rattle.module.specs.Asked.{asked_rows}
use Rattle.module.specs.States.{rows_of_both}
use Rattle.module.proofs.Stated.{at_no_place, at_place, no_item_rows, none_written}
use Rattle.state_rows.specs.Rows.{rows_in}
use Rattle.module.proofs.stating.Members+PartitionProcessor.write_one.Goals as goal

pub returns-in-None : goal.returns-in-None
returns-in-None c =
    let n = c.args.number.0 in
    let rows = asked_rows (map (λ a. a.now) c.args.asked.now) in
    let items = items_of c.args.items.now in
    let members = members_in machine c.args.self.now in
    none_written c.args.form (rows_of_both rows (at_number items n) (at_number members n)) c.args.text.now.items
    (no_item_rows rows (at_number items n) (at_number members n) (at_no_place items n c.in-None.ensures))

pub returns-in-Some : goal.returns-in-Some
returns-in-Some c =
    let n = c.args.number.0 in
    let rows = asked_rows (map (λ a. a.now) c.args.asked.now) in
    let items = items_of c.args.items.now in
    let members = members_in machine c.args.self.now in
    let place : ℕ = c.from.result in
    let old = c.args.text.now.items in
    let new = c.write_at.new.text.items in
    let answer = c.write_at.result in
    let is : Some place ≡ place_of_number n = search rules in
    subst (λ (i : Option Item). OnOk answer (new ≡ old ++ rows_in c.args.form (rows_of_both rows i (at_number members n)))) (sym (at_place items n place is))
    (subst (λ (x : Option (Member MachineControl)). OnOk answer (new ≡ old ++ rows_in c.args.form (rows_of_both rows (slice_get items place) x))) (sym (at_place members n place is)) c.write_at.ensures)
