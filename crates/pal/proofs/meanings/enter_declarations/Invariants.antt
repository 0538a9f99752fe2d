use Rattle.std.proofs.Common.{◌≡◌, ◌&&◌, true, List, [], ◌++◌, map, drop, is_ok}
use Rattle.pal_base.specs.View as view
use Rattle.pal_base.specs.View.{texts, name_of, expr_of, exprs_of, links_of, stmt_of, block_of}
use Rattle.pal.specs.Tables.{entries_of, counts_of}
use Rattle.pal_meaning.specs.WellFormed.{are_new}
use Rattle.pal_meaning.specs.Resolve.{no_counts, Entry, declaration_entries}
use Rattle.pal.proofs.meanings.enter_declarations.Given as goal

abbrev pub invariant-loop-declaration : goal.invariant-loop-declaration
invariant-loop-declaration l =
    let left = declaration_entries l.ports (counts_of l.counts) (map (view.declaration_of (texts l.names.keys)) (drop l.declaration-index l.declarations)) in
    let all = declaration_entries l.ports no_counts (map (view.declaration_of (texts l.names.keys)) l.declarations) in
    ((rest : List Entry) → (is_ok l.checked && are_new [] (entries_of l.table) (left ++ rest)) ≡ are_new [] (entries_of l.fn.table) (all ++ rest))
    × (is_ok l.checked ≡ true → entries_of l.table ++ left ≡ entries_of l.fn.table ++ all)
