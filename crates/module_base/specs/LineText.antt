-- The text of a line of inputs, part by part as it is written.
use Rattle.std.specs.Prelude.{ℕ, List, [], ◌∷◌, ◌++◌, codes}
use Rattle.std.specs.Fmt.{decimal}
use Rattle.apex_types.specs.Line.{words_text}
use Rattle.module_meaning.specs.Table.{Partition, at_number}
use Rattle.isolation.specs.declared.input.Input.{Input}
use Rattle.isolation.specs.declared.input.Input.TheVariants.{Arrive, ModuleFault, PartitionFault}
use Rattle.isolation.specs.declared.input.InputLine.{InputLine}
use Rattle.isolation.specs.InputText.{name_of_port}

-- the text after the tick, each part after a space
abbrev pub behind_tick : Partition → Input → List ℕ
behind_tick row (Arrive port m) = codes " ARRIVE " ++ name_of_port (at_number row.ports port.0) ++ words_text m.items
behind_tick row ModuleFault = codes " FAULT"
behind_tick row PartitionFault = codes " FAULT " ++ row.name

-- the line of an input
abbrev pub line_text : Partition → InputLine → List ℕ
line_text row l = decimal l.tick.0 ++ behind_tick row l.input ++ 10 ∷ []
