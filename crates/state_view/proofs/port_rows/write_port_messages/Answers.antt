-- the row of one more message is written
use Rattle.std.proofs.Common.{◌≡◌, ◌++◌, ◌∙◌, ℕ, option_map, subst}
use Rattle.state_rows.specs.Fields.{field_of}
use Rattle.state_rows.specs.Rows.{rows_in}
use Rattle.state_rows.specs.States.{message_row}
use Rattle.state_view.specs.Chosen.{rows_if}
use Rattle.state_view.proofs.Loops.{more_if}
use Rattle.state_view.proofs.port_rows.write_port_messages.Goals as goal

pub loop-place-preserved : goal.loop-place-preserved
loop-place-preserved c =
    let form = c.args.of.now.form in
    let rows = message_row c.args.of.now.name (field_of c.args.object) in
    let found = option_map (λ m. m.now) c.as_ref.result in
    let is_written : ℕ → Type 0 = λ place. c.write_if_any.new.text.items ≡ c.loop-place.text.items ++ rows_in form (rows_if rows place found) in
    let written : is_written c.loop-place.place = subst is_written c.from.ensures c.in_ok-write_if_any.ensures in
    more_if form rows c.args.port.now.messages c.loop-place.place found _ _ _ c.loop-place.invariant (c.as_ref.ensures.value ∙ c.message_behind-message.ensures) written
