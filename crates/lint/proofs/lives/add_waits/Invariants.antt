use Rattle.std.proofs.Common.{◌≡◌, ◌++◌, drop, flat_map}
use Rattle.pal_base.specs.View.{texts}
use Rattle.lint.specs.Lives.{wait_in_init}
use Rattle.lint.specs.Views.{calls_seen, found_all}
use Rattle.lint.proofs.lives.add_waits.Given as goal

abbrev pub invariant-loop-call : goal.invariant-loop-call
invariant-loop-call l = found_all l.findings.items ++ flat_map wait_in_init (calls_seen (texts l.names.keys) (drop l.call-index l.calls)) ≡ found_all l.fn.findings.items ++ flat_map wait_in_init (calls_seen (texts l.names.keys) l.calls)
