use Rattle.std.proofs.Common.{length, ap, ◌∙◌}
use Rattle.machine_laws.proofs.StackLength.{reply_keeps}
use Rattle.machine_meaning.specs.MachineControl.{MachineControl}
use Rattle.processor.specs.Views.{control_of}
use Rattle.partition_base.proofs.slot.Slot.reply.Goals as goal

pub returns-then-self-clause-stack : goal.returns-then-self-clause-stack
returns-then-self-clause-stack c =
    ap (λ (m : MachineControl). length m.stack) c.reply.ensures.control ∙ reply_keeps (control_of c.args.self.now.context c.args.memory.now) c.args.answer.now
