use Rattle.std.proofs.Common.{◌≡◌, ◌-◌, [], arith, ap, ◌∙◌}
use Rattle.apex_types.specs.ServiceCalls.{call_of}
use Rattle.apex_types.specs.ServiceShape.{argument_words}
use Rattle.machine_meaning.specs.MachineControl.{popped}
use Rattle.processor.proofs.context.Context.called.Goals as goal

pub returns : goal.returns
returns c =
    let count : c.args.self.now.sp - (c.args.self.now.sp - c.args.words) ≡ argument_words c.args.service = omega (arith, c.requires.words, c.requires.operands) in
    c.call_of.ensures ∙ ap (call_of c.args.service) (c.deref.ensures.0 ∙ c.popped-arguments.ensures ∙ ap (λ n. popped n c.args.memory.now.stack c.args.self.now.sp []) count)
