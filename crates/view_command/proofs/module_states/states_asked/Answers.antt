use Rattle.std.proofs.Common.{rules}
use Rattle.view_command.specs.Orders.{asked_text}
use Rattle.view_command.proofs.Tables.{states_refused}
use Rattle.view_command.proofs.module_states.states_asked.Goals as goal

pub returns-in_err-states_of-in-Some-clause-refused : goal.returns-in_err-states_of-in-Some-clause-refused
returns-in_err-states_of-in-Some-clause-refused g c = λ out.
    states_refused (g.F.Sources.texts c.args.sources.now) (asked_text c.args.states.now) c.as_str.result.now _ _ c.in_err-states_of-in-Some.field-0.0 c.from_residual.result
    (search rules) (c.in_err-states_of-in-Some.ensures.refused out) c.from_residual.ensures
