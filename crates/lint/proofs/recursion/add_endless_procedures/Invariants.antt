use Rattle.std.proofs.Common.{◌≡◌, ◌++◌, map, drop}
use Rattle.pal_base.specs.View.{declaration_of, declared_of, name_of, texts}
use Rattle.lint.specs.Recursion.{endless_procedure, endless_procedures}
use Rattle.lint.specs.Views.{found_all}
use Rattle.lint.proofs.recursion.add_endless_procedures.Given as goal

abbrev pub invariant-loop-declaration : goal.invariant-loop-declaration
invariant-loop-declaration l = found_all l.findings.items ++ endless_procedures (map (declaration_of (texts l.names.keys)) (drop l.declaration-index l.declarations)) ≡ found_all l.fn.findings.items ++ endless_procedures (map (declaration_of (texts l.names.keys)) l.declarations)
