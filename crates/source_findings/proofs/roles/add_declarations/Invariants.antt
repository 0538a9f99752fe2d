use Rattle.std.proofs.Common.{◌≡◌, ◌++◌, drop, map}
use Rattle.pal_base.specs.View.{declaration_of, texts}
use Rattle.source_findings.specs.Roles.{declaration_entry}
use Rattle.source_findings.specs.Views.{entries_of}
use Rattle.source_findings.proofs.roles.add_declarations.Given as goal

abbrev pub invariant-loop-declaration : goal.invariant-loop-declaration
invariant-loop-declaration l =
    entries_of l.entries.items ++ map declaration_entry (map (declaration_of (texts l.names.keys)) (drop l.declaration-index l.declarations))
    ≡ entries_of l.fn.entries.items ++ map declaration_entry (map (declaration_of (texts l.names.keys)) l.declarations)
