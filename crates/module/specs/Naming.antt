-- What the steps of writing a state with names promise.
use Rattle.std.specs.Prelude.{◌≡◌, ℕ, List, Option, Ok, map, option_map}
use Rattle.apex_types.specs.declared.device.DeviceLine.{DeviceLine}
use Rattle.machine_meaning.specs.Image.{Image}
use Rattle.machine_meaning.specs.MachineMeaning.{verdict_for}
use Rattle.pal_base.specs.WrittenView.{program_of}
use Rattle.state_rows.specs.Named.{Source}
use Rattle.state_rows.specs.Rows.{rows_in}
use Rattle.state_rows.specs.declared.row.Form.{Form}
use Rattle.module.specs.NamedStates.{rows_with_names, sources_of}
use Rattle.module.specs.States.{Last, Wanted, state_before}
use Rattle.module.specs.declared.naming_states.WrittenSources.{WrittenSources}
use Rattle.module.specs.declared.naming_states.WantedNames.{WantedNames}

abbrev pub named_in : WantedNames → Wanted
named_in w = record { form = w.form; partition = option_map (λ s. s.now) w.partition; moments = Last }

abbrev pub written_in : WrittenSources → List Source
written_in s = sources_of (map (λ t. t.items) s.texts.now) (map program_of s.trees.now)

-- the text of these rows of the state before tick n
pub record IsNamedTextFor (image : Image) (devices : List ℕ) (n : ℕ) (form : Form) (only : Option ℕ) (sources : List Source) (text : List ℕ) : Type 0 where
  pub lines : List DeviceLine
  pub taken : verdict_for image devices ≡ Ok lines
  pub rows : text ≡ rows_in form (rows_with_names only sources image n (state_before image lines n))
