use Rattle.std.proofs.Common.{◌≡◌, ◌++◌, map, drop}
use Rattle.pal_base.specs.View.{process_of, texts}
use Rattle.lint.specs.Lives.{processes_never_created}
use Rattle.lint.specs.Views.{found_all}
use Rattle.lint.proofs.lives.add_uncreated.Given as goal

abbrev pub invariant-loop-process : goal.invariant-loop-process
invariant-loop-process l = found_all l.findings.items ++ processes_never_created l.table (map (process_of (texts l.names.keys)) (drop l.process-index l.processes)) ≡ found_all l.fn.findings.items ++ processes_never_created l.table (map (process_of (texts l.names.keys)) l.processes)
