-- The entries of the code as entries of the definitions.
use Rattle.std.specs.Prelude.{List, map, string_bytes}
use Rattle.finding_lines.specs.Entries.{Step, key, element, Path, Entry}
use Rattle.finding_lines.specs.declared.path.OwnedStep.{OwnedStep}
use Rattle.finding_lines.specs.declared.path.OwnedStep.TheVariants as owned
use Rattle.finding_lines.specs.declared.path.Step as code_step
use Rattle.finding_lines.specs.declared.path.Step.TheVariants as lent
use Rattle.finding_lines.specs.declared.path.Entry as code_entry
use Rattle.finding_lines.specs.declared.walk.TomlPlaces.{TomlPlaces}

abbrev pub owned_step : OwnedStep → Step
owned_step (owned.Key k) = key (string_bytes k)
owned_step (owned.Element i) = element i

abbrev pub owned_path : List OwnedStep → Path
owned_path steps = map owned_step steps

abbrev pub step_of : code_step.Step → Step
step_of (lent.Key k) = key k.now
step_of (lent.Element i) = element i

abbrev pub path_of : List code_step.Step → Path
path_of steps = map step_of steps

abbrev pub entry_of : code_entry.Entry → Entry
entry_of e = record { path = owned_path e.path.items; key_left = e.key_left; value_left = e.value_left }

abbrev pub entries_of : List code_entry.Entry → List Entry
entries_of es = map entry_of es

abbrev pub entries_in : TomlPlaces → List Entry
entries_in places = entries_of places.entries.items
