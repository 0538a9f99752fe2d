-- The parts of a program as the definitions see them.
use Rattle.std.specs.Prelude.{ℕ, List, map, option_map}
use Rattle.pal_meaning.specs.Syntax as tree
use Rattle.pal_base.specs.declared.parse.Parts.{Parts}
use Rattle.pal_base.specs.View.{declaration_of, stack_body_of, process_of}

abbrev pub parts_of : List (List ℕ) → Parts → tree.Program
parts_of names p = record {
  declarations = map (declaration_of names) p.declarations.items;
  init = stack_body_of names p.init;
  handler = option_map (stack_body_of names) p.handler;
  processes = map (process_of names) p.processes.items;
}
