use Rattle.std.proofs.Common.{◌≡◌, ℕ, List, map, drop}
use Rattle.std.specs.List.{list_all}
use Rattle.pal_base.specs.View as view
use Rattle.pal_base.specs.View.{texts, name_of, expr_of, exprs_of, links_of, stmt_of, block_of}
use Rattle.pal_meaning.specs.WellFormed.{keeps_period}
use Rattle.pal.proofs.periods.check_periods.Given as goal

abbrev pub invariant-loop-process : goal.invariant-loop-process
invariant-loop-process l = (names : List (List ℕ)) → list_all (keeps_period l.partition) (map (view.process_of names) (drop l.process-index l.processes)) ≡ list_all (keeps_period l.partition) (map (view.process_of names) l.processes)
