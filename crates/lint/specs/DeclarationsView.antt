-- The declarations of a program, as a table of them holds them.
use Rattle.std.specs.Prelude.{List, map}
use Rattle.pal_base.specs.View.{declaration_of, texts}
use Rattle.pal_meaning.specs.Syntax as written
use Rattle.lint.specs.declared.declarations.Declarations.{Declarations}

abbrev pub declared_in : Declarations → List written.Declaration
declared_in t = map (declaration_of (texts t.names.now.keys)) t.declarations.now
