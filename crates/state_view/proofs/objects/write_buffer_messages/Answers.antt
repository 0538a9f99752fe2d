-- the row of one more message is written
use Rattle.std.proofs.Common.{option_map}
use Rattle.state_rows.specs.Fields.{field_of}
use Rattle.state_rows.specs.States.{message_row}
use Rattle.state_view.proofs.Loops.{more_if}
use Rattle.state_view.proofs.objects.write_buffer_messages.Goals as goal

pub loop-place-preserved : goal.loop-place-preserved
loop-place-preserved c =
    more_if c.args.of.now.form (message_row c.args.of.now.name (field_of c.args.object)) c.args.buffer.now.messages c.loop-place.place (option_map (λ m. m.now) c.message_after.result) _ _ _ c.loop-place.invariant c.message_after.ensures c.in_ok-write_if_any.ensures
