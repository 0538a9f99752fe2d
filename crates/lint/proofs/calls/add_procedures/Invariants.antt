use Rattle.std.proofs.Common.{◌≡◌, ◌++◌, map, drop}
use Rattle.pal_base.specs.View.{declaration_of, declared_of, texts}
use Rattle.lint.specs.Calls.{calls_of_kind, calls_of_procedures}
use Rattle.lint.specs.Views.{calls_seen, mentions_seen}
use Rattle.lint.proofs.calls.add_procedures.Given as goal

abbrev pub invariant-loop-declaration : goal.invariant-loop-declaration
invariant-loop-declaration l = calls_seen (texts l.names.keys) l.calls.items ++ calls_of_procedures (mentions_seen (texts l.names.keys) l.done) (map (declaration_of (texts l.names.keys)) (drop l.declaration-index l.declarations)) ≡ calls_seen (texts l.names.keys) l.fn.calls.items ++ calls_of_procedures (mentions_seen (texts l.names.keys) l.done) (map (declaration_of (texts l.names.keys)) l.declarations)
