use Rattle.std.proofs.Common.{◌≡◌, ◌++◌, map, drop}
use Rattle.pal_base.specs.View.{body_of, process_of, texts}
use Rattle.lint.specs.Calls.{calls_of, calls_of_processes}
use Rattle.lint.specs.Views.{calls_seen, mentions_seen}
use Rattle.lint.proofs.calls.add_processes.Given as goal

abbrev pub invariant-loop-process : goal.invariant-loop-process
invariant-loop-process l = calls_seen (texts l.names.keys) l.calls.items ++ calls_of_processes (mentions_seen (texts l.names.keys) l.done) (map (process_of (texts l.names.keys)) (drop l.process-index l.processes)) ≡ calls_seen (texts l.names.keys) l.fn.calls.items ++ calls_of_processes (mentions_seen (texts l.names.keys) l.done) (map (process_of (texts l.names.keys)) l.processes)
