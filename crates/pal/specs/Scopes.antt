-- The scope of a body as the definitions see it.
use Rattle.std.specs.Prelude.{ℕ, List}
use Rattle.pal_meaning.specs.Resolve as resolve
use Rattle.pal_base.specs.View.{texts}
use Rattle.pal.specs.declared.scope.Scope.{Scope}
use Rattle.pal.specs.Tables.{entries_of}

-- the texts of the names, by their numbers
abbrev pub names_of : Scope → List (List ℕ)
names_of s = texts s.names.now.keys

-- the meanings of the names
abbrev pub sees : Scope → resolve.Scope
sees s = resolve.scope_of (entries_of s.own) (entries_of s.declared.now)
