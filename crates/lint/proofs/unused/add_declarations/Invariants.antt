use Rattle.std.proofs.Common.{◌≡◌, ◌++◌, map, drop}
use Rattle.pal_base.specs.View.{declaration_of, texts}
use Rattle.lint.specs.Unused.{unused_declarations}
use Rattle.lint.specs.UsedNames.{used_names}
use Rattle.lint.specs.Views.{found_all}
use Rattle.lint.proofs.unused.add_declarations.Given as goal

abbrev pub invariant-loop-declaration : goal.invariant-loop-declaration
invariant-loop-declaration l = found_all l.findings.items ++ unused_declarations (used_names l.used) (map (declaration_of (texts l.names.keys)) (drop l.declaration-index l.declarations)) ≡ found_all l.fn.findings.items ++ unused_declarations (used_names l.used) (map (declaration_of (texts l.names.keys)) l.declarations)
