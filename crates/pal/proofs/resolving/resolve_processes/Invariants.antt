use Rattle.std.proofs.Common.{◌≡◌, ◌++◌, map, drop, true}
use Rattle.std.specs.List.{list_all}
use Rattle.pal_meaning.specs.WellFormed.{keeps_process}
use Rattle.pal_meaning.specs.Resolve as meant
use Rattle.pal_base.specs.View as view
use Rattle.pal_base.specs.View.{texts, name_of, integer_of, declaration_of}
use Rattle.pal_base.specs.ProgramView as shown
use Rattle.pal.specs.Tables.{entries_of}
use Rattle.pal.proofs.resolving.resolve_processes.Given as goal

abbrev pub invariant-loop-process : goal.invariant-loop-process
invariant-loop-process l = (map shown.process_of l.resolved.items ++ map (meant.resolve_process (entries_of l.declared)) (map (view.process_of (texts l.names.keys)) (drop l.process-index l.processes)) ≡ map (meant.resolve_process (entries_of l.declared)) (map (view.process_of (texts l.names.keys)) l.processes))
    × (list_all (keeps_process (entries_of l.declared)) (map (view.process_of (texts l.names.keys)) (drop l.process-index l.processes)) ≡ true)
