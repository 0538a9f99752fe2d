use Rattle.std.proofs.Common.{◌≡◌, ◌++◌, map, drop}
use Rattle.pal_base.specs.View.{declaration_of, declared_of, name_of, texts}
use Rattle.lint.specs.Calls.{first_value, first_values}
use Rattle.lint.specs.Views.{mentions_seen}
use Rattle.lint.proofs.calls.add_first_values.Given as goal

abbrev pub invariant-loop-declaration : goal.invariant-loop-declaration
invariant-loop-declaration l = mentions_seen (texts l.names.keys) l.mentions.items ++ first_values (map (declaration_of (texts l.names.keys)) (drop l.declaration-index l.declarations)) ≡ mentions_seen (texts l.names.keys) l.fn.mentions.items ++ first_values (map (declaration_of (texts l.names.keys)) l.declarations)
