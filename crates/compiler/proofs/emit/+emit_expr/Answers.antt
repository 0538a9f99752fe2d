use Rattle.std.proofs.Common.{◌++◌, ◌∷◌, [], sym, ap, ◌∙◌, append_assoc}
use Rattle.compiling_laws.specs.CompiledCode as code_of
use Rattle.pal_base.specs.ProgramView.{expr_of, exprs_of, links_of}
use Rattle.pal_base.proofs.ProgramRows.{seen_apply, seen_chain}
use Rattle.compiler.proofs.Emitted.{on_ok}
use Rattle.apex_types.specs.declared.instruction.Instr.TheVariants as instr
use Rattle.compiler.proofs.emit.+emit_expr.Goals as goal

pub emit_expr-returns-in_ok-emit_expr-in-Chain : goal.emit_expr-returns-in_ok-emit_expr-in-Chain
emit_expr-returns-in_ok-emit_expr-in-Chain t c =
    let seen = ap code_of.expr_code (seen_chain _ _ _ _ _ c.in-Chain.is c.deref-in-Chain.ensures c.deref-in-Chain-2.ensures.value) in
    let old = c.args.code.now.items in
    let first = code_of.expr_code (expr_of c.deref-in-Chain.result.now) in
    let rest = code_of.links_code (links_of c.deref-in-Chain-2.result.now) in
    on_ok c.emit_links.result (λ e. e ∙ ap (λ l. l ++ rest) c.in_ok-emit_expr-in-Chain.ensures ∙ append_assoc old first rest ∙ ap (λ l. old ++ l) (sym seen)) c.emit_links.ensures

pub emit_expr-returns-in_ok-emit_exprs-in-Apply : goal.emit_expr-returns-in_ok-emit_exprs-in-Apply
emit_expr-returns-in_ok-emit_exprs-in-Apply t c =
    let seen = ap code_of.expr_code (seen_apply _ _ _ _ c.in-Apply.is c.deref-in-Apply.ensures.value) in
    let old = c.args.code.now.items in
    let first = code_of.exprs_code (exprs_of c.deref-in-Apply.result.now) in
    let last = instr.Call c.in-Apply.procedure ∷ [] in
    on_ok c.put-in-Apply.result (λ e. e ∙ ap (λ l. l ++ last) c.in_ok-emit_exprs-in-Apply.ensures ∙ append_assoc old first last ∙ ap (λ l. old ++ l) (sym seen)) c.put-in-Apply.ensures.code
