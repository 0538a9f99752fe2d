use Rattle.std.proofs.Common.{◌≡◌, ◌++◌, drop}
use Rattle.pal_base.specs.View.{texts}
use Rattle.lint.specs.DeclarationsView.{declared_in}
use Rattle.lint.specs.Does.{found_at_call, found_at_calls}
use Rattle.lint.specs.Views.{call_of, calls_seen, found_all}
use Rattle.lint.proofs.does.add_at_calls.Given as goal

abbrev pub invariant-loop-call : goal.invariant-loop-call
invariant-loop-call l = found_all l.findings.items ++ found_at_calls l.ports (declared_in l.declarations) (calls_seen (texts l.names.keys) (drop l.call-index l.calls)) ≡ found_all l.fn.findings.items ++ found_at_calls l.ports (declared_in l.declarations) (calls_seen (texts l.names.keys) l.calls)
