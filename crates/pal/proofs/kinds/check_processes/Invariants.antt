use Rattle.std.proofs.Common.{◌≡◌, ◌&&◌, false, [], map, drop, is_ok}
use Rattle.std.specs.List.{list_all}
use Rattle.pal_base.specs.View as view
use Rattle.pal_base.specs.View.{texts, name_of, expr_of, exprs_of, links_of, stmt_of, block_of}
use Rattle.pal.specs.Tables.{entries_of}
use Rattle.pal_meaning.specs.WellFormed.{kinds_hold_in_body}
use Rattle.pal.proofs.kinds.check_processes.Given as goal

abbrev pub invariant-loop-process : goal.invariant-loop-process
invariant-loop-process l = (is_ok l.checked && list_all (λ q. kinds_hold_in_body (entries_of l.declared) false [] q.body) (map (view.process_of (texts l.names.keys)) (drop l.process-index l.processes))) ≡ list_all (λ q. kinds_hold_in_body (entries_of l.declared) false [] q.body) (map (view.process_of (texts l.names.keys)) l.processes)
