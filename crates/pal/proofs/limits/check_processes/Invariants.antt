use Rattle.std.proofs.Common.{◌≡◌, ◌&&◌, map, drop, is_ok}
use Rattle.std.specs.List.{list_all}
use Rattle.pal_base.specs.View as view
use Rattle.pal_base.specs.View.{texts, name_of, expr_of, exprs_of, links_of, stmt_of, block_of}
use Rattle.pal.specs.Tables.{entries_of}
use Rattle.pal_meaning.specs.WellFormed.{keeps_process}
use Rattle.pal.proofs.limits.check_processes.Given as goal

abbrev pub invariant-loop-process : goal.invariant-loop-process
invariant-loop-process l = (is_ok l.checked && list_all (keeps_process (entries_of l.declared)) (map (view.process_of (texts l.names.keys)) (drop l.process-index l.processes))) ≡ list_all (keeps_process (entries_of l.declared)) (map (view.process_of (texts l.names.keys)) l.processes)
