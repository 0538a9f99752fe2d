use Rattle.std.proofs.Common.{rules}
use Rattle.view_command.specs.Orders.{asked_text}
use Rattle.view_command.proofs.Tables.{asked_refused}
use Rattle.view_command.proofs.windows.table_asked.Goals as goal

pub returns-in_err-table_of-in-Some-clause-refused : goal.returns-in_err-table_of-in-Some-clause-refused
returns-in_err-table_of-in-Some-clause-refused g c = λ out.
    asked_refused (g.F.Sources.texts c.args.sources.now) (asked_text c.args.table.now) c.as_str.result.now _ _ c.in_err-table_of-in-Some.field-0.0 c.from_residual.result
    (search rules) (c.in_err-table_of-in-Some.ensures.refused out) c.from_residual.ensures
