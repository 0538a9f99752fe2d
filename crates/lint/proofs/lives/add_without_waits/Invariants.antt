use Rattle.std.proofs.Common.{◌≡◌, ◌++◌, map, drop}
use Rattle.pal_base.specs.View.{process_of, texts}
use Rattle.lint.specs.Lives.{without_wait, without_waits}
use Rattle.lint.specs.Views.{calls_seen, found_all, mentions_seen}
use Rattle.lint.proofs.lives.add_without_waits.Given as goal

abbrev pub invariant-loop-process : goal.invariant-loop-process
invariant-loop-process l = found_all l.findings.items ++ without_waits (mentions_seen (texts l.names.keys) l.done) (calls_seen (texts l.names.keys) l.calls) (map (process_of (texts l.names.keys)) (drop l.process-index l.processes)) ≡ found_all l.fn.findings.items ++ without_waits (mentions_seen (texts l.names.keys) l.done) (calls_seen (texts l.names.keys) l.calls) (map (process_of (texts l.names.keys)) l.processes)
