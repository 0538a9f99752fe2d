use Rattle.std.proofs.Common.{◌≡◌, ◌++◌, map, drop}
use Rattle.pal_base.specs.View.{declaration_of, declared_of, texts}
use Rattle.lint.specs.Mentions.{mentions_of_kind, mentions_of_procedures}
use Rattle.lint.specs.Views.{mentions_seen}
use Rattle.lint.proofs.mentions.add_procedures.Given as goal

abbrev pub invariant-loop-declaration : goal.invariant-loop-declaration
invariant-loop-declaration l = mentions_seen (texts l.names.keys) l.mentions.items ++ mentions_of_procedures (map (declaration_of (texts l.names.keys)) (drop l.declaration-index l.declarations)) ≡ mentions_seen (texts l.names.keys) l.fn.mentions.items ++ mentions_of_procedures (map (declaration_of (texts l.names.keys)) l.declarations)
