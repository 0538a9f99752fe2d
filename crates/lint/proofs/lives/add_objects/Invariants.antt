use Rattle.std.proofs.Common.{◌≡◌, ◌++◌, map, drop}
use Rattle.pal_base.specs.View.{declaration_of, texts}
use Rattle.lint.specs.Lives.{objects_never_created}
use Rattle.lint.specs.Views.{found_all}
use Rattle.lint.proofs.lives.add_objects.Given as goal

abbrev pub invariant-loop-declaration : goal.invariant-loop-declaration
invariant-loop-declaration l = found_all l.findings.items ++ objects_never_created l.table (map (declaration_of (texts l.names.keys)) (drop l.declaration-index l.declarations)) ≡ found_all l.fn.findings.items ++ objects_never_created l.table (map (declaration_of (texts l.names.keys)) l.declarations)
