use Rattle.std.proofs.Common.{refl}
use Rattle.view_command.proofs.Tables.{states_unopened}
use Rattle.view_command.proofs.module_states.states_of.Goals as goal

pub returns-in_err-text-clause-refused : goal.returns-in_err-text-clause-refused
returns-in_err-text-clause-refused g c = λ out.
    states_unopened (g.F.Sources.texts c.args.sources.now) c.args.name.now _ _ c.in_err-text.field-0.0 c.from_residual.result refl c.in_err-text.ensures.refused c.from_residual.ensures
