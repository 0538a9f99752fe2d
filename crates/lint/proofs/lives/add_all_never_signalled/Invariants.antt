use Rattle.std.proofs.Common.{◌≡◌, ◌+◌, ◌≤◌, ◌++◌, map, drop}
use Rattle.pal_base.specs.View.{declaration_of, texts}
use Rattle.lint.specs.Lives.{all_never_signalled}
use Rattle.lint.specs.Views.{calls_seen, found_all}
use Rattle.lint.proofs.lives.add_all_never_signalled.Given as goal

abbrev pub invariant-loop-declaration : goal.invariant-loop-declaration
invariant-loop-declaration l = record {
  counted : l.number ≤ l.declaration-index + 1;
  left : found_all l.findings.items ++ all_never_signalled (calls_seen (texts l.names.keys) l.calls) l.kind l.number (map (declaration_of (texts l.names.keys)) (drop l.declaration-index l.declarations)) ≡ found_all l.fn.findings.items ++ all_never_signalled (calls_seen (texts l.names.keys) l.calls) l.kind 1 (map (declaration_of (texts l.names.keys)) l.declarations);
}
