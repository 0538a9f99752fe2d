use Rattle.std.proofs.Common.{◌≡◌, ℕ, List, drop, map, ◌++◌}
use Rattle.pal_base.specs.View.{process_of}
use Rattle.source_places.specs.Places as spec
use Rattle.source_places.proofs.places.add_processes.Given as goal

abbrev pub invariant-loop-process : goal.invariant-loop-process
invariant-loop-process l =
    (names : List (List ℕ))
    → l.places.items ++ spec.processes_places l.rest (map (process_of names) (drop l.process-index l.processes))
    ≡ l.fn.places.items ++ spec.processes_places l.text (map (process_of names) l.processes)
