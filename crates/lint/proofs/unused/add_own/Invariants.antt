use Rattle.std.proofs.Common.{◌≡◌, ◌++◌, map, drop, flat_map}
use Rattle.pal_base.specs.View.{name_of, texts}
use Rattle.lint.specs.Unused.{unused}
use Rattle.lint.specs.UsedNames.{used_names}
use Rattle.lint.specs.Views.{found_all}
use Rattle.lint.proofs.unused.add_own.Given as goal

abbrev pub invariant-loop-name : goal.invariant-loop-name
invariant-loop-name l = found_all l.findings.items ++ flat_map (unused (used_names l.used) l.kind) (map (name_of (texts l.names.keys)) (drop l.name-index l.own)) ≡ found_all l.fn.findings.items ++ flat_map (unused (used_names l.used) l.kind) (map (name_of (texts l.names.keys)) l.own)
