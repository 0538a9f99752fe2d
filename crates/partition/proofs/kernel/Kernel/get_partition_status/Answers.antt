use Rattle.std.proofs.Common.{subst, sym, ◌∙◌, ap}
use Rattle.apex_types.specs.declared.codes.ReturnCode.TheVariants as code
use Rattle.apex_types.specs.declared.service.Service.TheVariants as service
use Rattle.kernel_meaning.specs.PartitionServices.{status_of}
use Rattle.kernel_meaning.specs.Processes.{answers}
use Rattle.kernel_meaning.specs.Made.{IsTold}
use Rattle.partition.proofs.kernel.Kernel.get_partition_status.Goals as goal

pub returns-clause-step : goal.returns-clause-step
returns-clause-step c = rw (sym c.self.view_is)
    (subst (λ words. IsTold (answers c.self.inside.processes c.args.caller service.GetPartitionStatus code.NoError words) c.args.out.now c.answer.new.out) (c.status-outputs.ensures ∙ ap status_of (sym c.self.view_is)) c.answer.ensures.step)
