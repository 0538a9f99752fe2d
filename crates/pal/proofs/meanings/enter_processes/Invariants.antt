use Rattle.std.proofs.Common.{◌≡◌, ◌&&◌, true, List, [], ◌++◌, map, drop, is_ok}
use Rattle.pal_base.specs.View as view
use Rattle.pal_base.specs.View.{texts, name_of, expr_of, exprs_of, links_of, stmt_of, block_of}
use Rattle.pal.specs.Tables.{entries_of}
use Rattle.pal_meaning.specs.WellFormed.{are_new}
use Rattle.pal_meaning.specs.Resolve.{Entry, process_entries}
use Rattle.pal.proofs.meanings.enter_processes.Given as goal

abbrev pub invariant-loop-process : goal.invariant-loop-process
invariant-loop-process l =
    let left = process_entries l.count (map (view.process_of (texts l.names.keys)) (drop l.process-index l.processes)) in
    let all = process_entries 0 (map (view.process_of (texts l.names.keys)) l.processes) in
    ((rest : List Entry) → (is_ok l.checked && are_new [] (entries_of l.table) (left ++ rest)) ≡ are_new [] (entries_of l.fn.table) (all ++ rest))
    × (is_ok l.checked ≡ true → entries_of l.table ++ left ≡ entries_of l.fn.table ++ all)
