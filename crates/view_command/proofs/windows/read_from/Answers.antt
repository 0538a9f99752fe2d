use Rattle.view_command.proofs.Tables.{read_whole, table_read}
use Rattle.view_command.proofs.windows.read_from.Goals as goal

pub returns-in-Err-clause-refused : goal.returns-in-Err-clause-refused
returns-in-Err-clause-refused g c = c.of_reading.ensures.table (g.R.Read.remaining c.args.table.reader)

pub returns-in-Ok-clause-table : goal.returns-in-Ok-clause-table
returns-in-Ok-clause-table g c =
    let left = g.R.Read.remaining c.args.table.reader in
    table_read left c.as_slice.result.now c.in-Ok.table
    (read_whole left c.as_slice.result.now c.read_to_end.new.buf.items c.new-text.result.items c.as_slice.ensures.value c.new-text.ensures.items c.in_default.ensures.bytes)
    c.in-Ok.ensures
