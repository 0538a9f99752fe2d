use Rattle.std.proofs.Common.{◌≡◌, ap, ◌∙◌, arith}
use Rattle.pal_meaning.specs.Program as cost
use Rattle.pal_base.specs.ProgramView.{procedure_of, block_of}
use Rattle.compiling_laws.proofs.Operands.{block_operands}
use Rattle.compiler.proofs.bodies.emit_procedure.Goals as goal

pub overflow_cast-frame : goal.overflow_cast-frame
overflow_cast-frame c = omega (arith, c.requires, block_operands (block_of c.args.procedure.now.block.items), ap (λ ys. cost.operands_of_block (block_of ys)) c.deref-2.ensures.value, c.frame_of_procedure-frame.ensures)

pub returns-clause-row : goal.returns-clause-row
returns-clause-row c =
    let frame : c.frame_of_procedure-frame.result ≡ cost.frame_of_procedure (procedure_of c.args.procedure.now) = omega (arith, c.requires, block_operands (block_of c.args.procedure.now.block.items), ap (λ ys. cost.operands_of_block (block_of ys)) c.deref-2.ensures.value, c.frame_of_procedure-frame.ensures) in
    let entry = c.len-entry.ensures ∙ c.args.code.now.ok.0 in
    let slots = c.slots_of-slots.ensures in
    λ i. record { entry = entry i; parameters = c.args.procedure.now.parameters; slots = slots i; frame = frame i }
