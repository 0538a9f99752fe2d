use Rattle.std.proofs.Common.{◌≡◌, ◌&&◌, map, drop, is_ok}
use Rattle.std.specs.List.{list_all}
use Rattle.pal_base.specs.View as view
use Rattle.pal_base.specs.View.{texts, name_of, expr_of, exprs_of, links_of, stmt_of, block_of}
use Rattle.pal.specs.Tables.{entries_of}
use Rattle.pal.specs.Parts.{names_hold_of}
use Rattle.pal_meaning.specs.WellFormed.{holds_of_procedure}
use Rattle.pal.proofs.names.check_procedures.Given as goal

abbrev pub invariant-loop-declaration : goal.invariant-loop-declaration
invariant-loop-declaration l = (is_ok l.checked && list_all (λ d. holds_of_procedure (names_hold_of (entries_of l.declared)) d.kind) (map (view.declaration_of (texts l.names.keys)) (drop l.declaration-index l.declarations))) ≡ list_all (λ d. holds_of_procedure (names_hold_of (entries_of l.declared)) d.kind) (map (view.declaration_of (texts l.names.keys)) l.declarations)
