use Rattle.std.proofs.Common.{◌≡◌, ◌∙◌, arith}
use Rattle.pal_meaning.specs.Program as cost
use Rattle.pal_base.specs.ProgramView.{body_of, block_of}
use Rattle.compiling_laws.proofs.Operands.{block_operands}
use Rattle.compiler.proofs.bodies.emit_body.Goals as goal

pub overflow_cast-frame : goal.overflow_cast-frame
overflow_cast-frame c = omega (arith, c.requires, block_operands (block_of c.args.body.now.block.items), c.frame_of_body-frame.ensures)

pub returns-clause-row : goal.returns-clause-row
returns-clause-row c =
    let frame : c.frame_of_body-frame.result ≡ cost.frame_of_body (body_of c.args.body.now) = omega (arith, c.requires, block_operands (block_of c.args.body.now.block.items), c.frame_of_body-frame.ensures) in
    let entry = c.len-entry.ensures ∙ c.args.code.now.ok.0 in
    let slots = c.from-slots.ensures in
    λ i. record { stack = c.args.body.now.stack; entry = entry i; slots = slots i; frame = frame i }
