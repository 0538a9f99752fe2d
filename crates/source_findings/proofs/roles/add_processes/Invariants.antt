use Rattle.std.proofs.Common.{◌≡◌, ◌++◌, drop, map}
use Rattle.pal_base.specs.View.{process_of, texts}
use Rattle.source_findings.specs.Roles.{process_entry}
use Rattle.source_findings.specs.Views.{entries_of}
use Rattle.source_findings.proofs.roles.add_processes.Given as goal

abbrev pub invariant-loop-process : goal.invariant-loop-process
invariant-loop-process l =
    entries_of l.entries.items ++ map process_entry (map (process_of (texts l.names.keys)) (drop l.process-index l.processes))
    ≡ entries_of l.fn.entries.items ++ map process_entry (map (process_of (texts l.names.keys)) l.processes)
