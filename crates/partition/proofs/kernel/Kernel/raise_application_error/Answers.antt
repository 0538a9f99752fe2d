use Rattle.std.proofs.Common.{rules}
use Rattle.apex_types.specs.declared.codes.ErrorKind.TheVariants.{ApplicationError}
use Rattle.kernel_meaning.specs.HealthServices.{raise_application_error}
use Rattle.kernel_meaning.specs.Kernel.{with_errors}
use Rattle.kernel_meaning.specs.Made.{IsMade}
use Rattle.partition.proofs.Leaving.{then_acted}
use Rattle.partition.proofs.kernel.Kernel.raise_application_error.Goals as goal

pub returns-clause-step : goal.returns-clause-step
returns-clause-step c =
    let k = c.args.self.now in
    let s = raise_application_error k.fixed.health k.mode (with_errors k) c.args.caller c.args.error c.args.handed.array c.args.handed.length c.args.words.now.items in
    let made : IsMade s c.raise_application_error-left.result c.args.out.now c.raise_application_error-left.new.out = search rules in
    then_acted k c.args.caller ApplicationError s c.raise_application_error-left.result c.act_on_error.new.self c.args.out.now c.raise_application_error-left.new.out c.act_on_error.new.out made c.act_on_error.ensures.step
