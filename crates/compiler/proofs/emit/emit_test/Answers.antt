use Rattle.std.proofs.Common.{◌+◌, length, ap, ◌∙◌, arith, length-append}
use Rattle.compiling_laws.specs.CompiledCode as code_of
use Rattle.compiling_laws.proofs.Sizes.{expr_size}
use Rattle.pal_base.specs.ProgramView.{expr_of}
use Rattle.compiler.proofs.emit.emit_test.Goals as goal

pub returns-clause-size : goal.returns-clause-size
returns-clause-size c = ap length c.in_ok-emit_expr.ensures ∙ length-append c.args.code.now.items (code_of.expr_code (expr_of c.args.test.now)) ∙ ap (λ n. length c.args.code.now.items + n) (expr_size (expr_of c.args.test.now))

pub overflow_cast-result : goal.overflow_cast-result
overflow_cast-result c =
    let long = ap length c.in_ok-emit_expr.ensures ∙ length-append c.args.code.now.items (code_of.expr_code (expr_of c.args.test.now)) ∙ ap (λ n. length c.args.code.now.items + n) (expr_size (expr_of c.args.test.now)) in
    let len = c.len.ensures ∙ c.emit_expr.new.code.ok.0 in
    omega (arith, c.requires)
