use Rattle.view_command.proofs.Tables.{read_whole, states_read}
use Rattle.view_command.proofs.module_states.read_states.Goals as goal

pub returns-in-Err-clause-refused : goal.returns-in-Err-clause-refused
returns-in-Err-clause-refused g c = c.of_reading.ensures.states (g.R.Read.remaining c.args.states.reader)

pub returns-in-Ok-clause-states : goal.returns-in-Ok-clause-states
returns-in-Ok-clause-states g c =
    let left = g.R.Read.remaining c.args.states.reader in
    states_read left c.as_slice.result.now
    (read_whole left c.as_slice.result.now c.read_to_end.new.buf.items c.new-text.result.items c.as_slice.ensures.value c.new-text.ensures.items c.in_default.ensures.bytes)
    c.in-Ok.ensures.taken
