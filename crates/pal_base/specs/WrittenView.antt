-- A whole written program as the definitions see it.
use Rattle.pal_base.specs.View.{program_from}
use Rattle.pal_base.specs.declared.syntax.Program.{Program}
use Rattle.pal_meaning.specs.Syntax as tree

abbrev pub program_of : Program → tree.Program
program_of p = program_from p.names.keys p.declarations.items p.init p.handler p.processes.items
