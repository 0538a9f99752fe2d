-- The sources of a module that was built, as the code holds them.
use Rattle.std.specs.Prelude.{List, map}
use Rattle.module.specs.NamedStates.{sources_of}
use Rattle.pal_base.specs.WrittenView.{program_of}
use Rattle.state_rows.specs.Named.{Source}
use Rattle.command_line.specs.Reading.{texts_of}
use Rattle.command_line.specs.declared.naming.BuiltModule.{BuiltModule}

abbrev pub made_in : BuiltModule → List Source
made_in m = sources_of (texts_of m.texts.items) (map program_of m.trees.items)
