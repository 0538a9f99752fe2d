-- The definitions of a well-formed program over entries of its declared names, and parts of a
-- program before other parts.
use Rattle.std.specs.Prelude.{ℕ, Bool, ◌&&◌, nat_le, List, [], ◌∷◌, length, map, flat_map, filter_map, option_map}
use Rattle.std.specs.List.{list_all}
use Rattle.apex_types.specs.Limits.{MOST_PROCESSES}
use Rattle.pal_meaning.specs.Resolve.{Entry, no_counts, counts_of, words_of, semaphore_of, buffer_of, blackboard_of, procedure_of, resolve_stack_body, resolve_process}
use Rattle.pal_meaning.specs.Syntax as written
use Rattle.pal_meaning.specs.Program as tree
use Rattle.pal_meaning.specs.WellFormed.{names_hold_in_body, keeps_counts, keeps_declaration, keeps_stack_body, keeps_handler, keeps_process}
use Rattle.pal_base.specs.declared.program.Expr as code_expr
use Rattle.pal_base.specs.declared.program.Link as code_link
use Rattle.pal_base.specs.declared.program.Stmt as code_stmt
use Rattle.pal_base.specs.ProgramView.{expr_of, stmt_of}

abbrev pub names_hold_of : List Entry → Bool → List (List ℕ) → written.Body → Bool
names_hold_of declared returns parameters b = names_hold_in_body declared parameters b

abbrev pub limits_hold_among : List Entry → written.Program → Bool
limits_hold_among declared p =
    keeps_counts no_counts p.declarations && list_all (keeps_declaration declared) p.declarations
    && keeps_stack_body declared p.init.stack p.init.body && keeps_handler declared p.handler
    && list_all (keeps_process declared) p.processes && nat_le (length p.processes) MOST_PROCESSES

abbrev pub resolve_among : List Entry → written.Program → tree.Program
resolve_among declared p = record {
  initial = flat_map (λ d. words_of d.kind) p.declarations;
  semaphores = filter_map (λ d. semaphore_of d.kind) p.declarations;
  events = (counts_of no_counts p.declarations).events;
  buffers = filter_map (λ d. buffer_of d.kind) p.declarations;
  blackboards = filter_map (λ d. blackboard_of d.kind) p.declarations;
  procedures = filter_map (λ d. procedure_of declared d.kind) p.declarations;
  init = resolve_stack_body declared p.init;
  handler = option_map (resolve_stack_body declared) p.handler;
  processes = map (resolve_process declared) p.processes;
}

-- expressions, operators with their operands, and statements before others
abbrev pub exprs_onto : List code_expr.Expr → tree.Exprs → tree.Exprs
exprs_onto [] rest = rest
exprs_onto (e ∷ es) rest = tree.MoreExprs (expr_of e) (exprs_onto es rest)

abbrev pub links_onto : List code_link.Link → tree.Links → tree.Links
links_onto [] rest = rest
links_onto (l ∷ ls) rest = tree.MoreLinks l.operator (expr_of l.operand) (links_onto ls rest)

abbrev pub block_onto : List code_stmt.Stmt → tree.Block → tree.Block
block_onto [] rest = rest
block_onto (s ∷ ss) rest = tree.MoreStmts (stmt_of s) (block_onto ss rest)
