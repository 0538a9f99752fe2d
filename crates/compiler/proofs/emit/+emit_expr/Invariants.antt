use Rattle.std.proofs.Common.{◌≡◌, drop, ◌++◌}
use Rattle.compiling_laws.specs.CompiledCode as code_of
use Rattle.pal_base.specs.ProgramView.{exprs_of, links_of}
use Rattle.compiler.proofs.emit.+emit_expr.Given as goal

abbrev pub invariant-emit_exprs-loop-expr : goal.invariant-emit_exprs-loop-expr
invariant-emit_exprs-loop-expr l = l.code.items ++ code_of.exprs_code (exprs_of (drop l.expr-index l.exprs)) ≡ l.fn.code.items ++ code_of.exprs_code (exprs_of l.exprs)

abbrev pub invariant-emit_links-loop-link : goal.invariant-emit_links-loop-link
invariant-emit_links-loop-link l = l.code.items ++ code_of.links_code (links_of (drop l.link-index l.links)) ≡ l.fn.code.items ++ code_of.links_code (links_of l.links)
