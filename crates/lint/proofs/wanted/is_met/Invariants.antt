use Rattle.std.proofs.Common.{◌≡◌, drop}
use Rattle.std.specs.List.{list_any}
use Rattle.pal_base.specs.View.{texts}
use Rattle.lint.specs.Lives.{meets}
use Rattle.lint.specs.Seen.{wanted_of}
use Rattle.lint.specs.Views.{calls_seen}
use Rattle.lint.proofs.wanted.is_met.Given as goal

abbrev pub invariant-loop-call : goal.invariant-loop-call
invariant-loop-call l = list_any (meets (wanted_of (texts l.names.keys) l.wanted)) (calls_seen (texts l.names.keys) l.calls) ≡ list_any (meets (wanted_of (texts l.names.keys) l.wanted)) (calls_seen (texts l.names.keys) (drop l.call-index l.calls))
