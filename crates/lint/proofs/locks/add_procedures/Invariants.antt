use Rattle.std.proofs.Common.{◌≡◌, ◌++◌, map, drop}
use Rattle.pal_base.specs.View.{declaration_of, texts}
use Rattle.lint.specs.Locks.{locked_in_procedures}
use Rattle.lint.specs.Views.{found_all}
use Rattle.lint.proofs.locks.add_procedures.Given as goal

abbrev pub invariant-loop-declaration : goal.invariant-loop-declaration
invariant-loop-declaration l = found_all l.findings.items ++ locked_in_procedures (map (declaration_of (texts l.names.keys)) (drop l.declaration-index l.declarations)) ≡ found_all l.fn.findings.items ++ locked_in_procedures (map (declaration_of (texts l.names.keys)) l.declarations)
