use Rattle.std.proofs.Common.{rules}
use Rattle.view_command.proofs.Tables.{unopened}
use Rattle.view_command.proofs.opening.open_text.Goals as goal

pub returns-in-Err-clause-refused : goal.returns-in-Err-clause-refused
returns-in-Err-clause-refused g c = unopened c.args.name.now c.in_ok-shown.shown _ _ c.in-Err.fault c.of_source.result c.of_source.ensures (search rules) c.in-Err.ensures.noted
