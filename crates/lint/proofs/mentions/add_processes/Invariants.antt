use Rattle.std.proofs.Common.{◌≡◌, ◌++◌, map, drop}
use Rattle.pal_base.specs.View.{body_of, process_of, texts}
use Rattle.lint.specs.Mentions.{mentions_of, mentions_of_processes}
use Rattle.lint.specs.Views.{mentions_seen}
use Rattle.lint.proofs.mentions.add_processes.Given as goal

abbrev pub invariant-loop-process : goal.invariant-loop-process
invariant-loop-process l = mentions_seen (texts l.names.keys) l.mentions.items ++ mentions_of_processes (map (process_of (texts l.names.keys)) (drop l.process-index l.processes)) ≡ mentions_seen (texts l.names.keys) l.fn.mentions.items ++ mentions_of_processes (map (process_of (texts l.names.keys)) l.processes)
