-- The source of a partition, as the code holds it.
use Rattle.pal_base.specs.WrittenView.{program_of}
use Rattle.state_rows.specs.Named as meaning
use Rattle.state_view.specs.declared.source.Source.{Source}

abbrev pub source_in : Source → meaning.Source
source_in s = record { text = s.text.now; tree = program_of s.program.now; places = s.places.items }
