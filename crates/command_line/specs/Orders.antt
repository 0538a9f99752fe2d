-- The command that the words of a command line ask for.
use Rattle.std.specs.Prelude.{◌||◌, ℕ, Bool, true, false, List, [], ◌∷◌, Option, Some, None, if◌then◌else◌, codes}
use Rattle.std.specs.List.{list_any}
use Rattle.std.specs.Str.{bytes_eq}
use Rattle.std.specs.Str.Parse.{digits_value}
use Rattle.clap.specs.Walk.{Row, first_of}
use Rattle.command_words.specs.Found.{Entered, word_at, words_at}
use Rattle.command_line.specs.declared.explaining.Style.{Style}
use Rattle.command_line.specs.declared.explaining.Style.TheVariants.{Json, Plain}
use Rattle.command_line.specs.declared.form.Form.{Form}
use Rattle.command_line.specs.declared.form.Form.TheVariants.{Tables, Rows, Picture}
use Rattle.module.specs.States as states
use Rattle.module.specs.States.{Moments, Wanted}
use Rattle.state_rows.specs.declared.row.Form.{Form as RowForm}
use Rattle.state_rows.specs.declared.row.Form.TheVariants as row_form

-- files and partitions are named; ticks are a word, and a number of ticks between states too, if it is given; a run may wait for a line with
-- some words; if a word is only `-`, nothing is asked for
pub data Order : Type 0 where
  First : Order
  Check : (table : List ℕ) (sources : List (List ℕ)) → Order
  Build : (table : List ℕ) (image : List ℕ) (sources : List (List ℕ)) → Order
  Run : (image : List ℕ) (devices : List ℕ) (ticks : List ℕ) (until : List (List ℕ)) → Order
  Replay : (image : List ℕ) (partition : List ℕ) (inputs : List ℕ) (ticks : List ℕ) → Order
  Inputs : (image : List ℕ) (partition : List ℕ) (devices : List ℕ) (ticks : List ℕ) → Order
  ShowState : (image : List ℕ) (devices : List ℕ) (tick : List ℕ) (every : Option (List ℕ)) (wanted : Wanted) → Order
  ShowNames : (table : List ℕ) (sources : List (List ℕ)) (devices : List ℕ) (tick : List ℕ) (wanted : Wanted) → Order
  Cost : (table : List ℕ) (sources : List (List ℕ)) → Order
  Dis : (image : List ℕ) → Order
  Upgrade : (old : List ℕ) (new : List ℕ) → Order
  Load : (form : Form) (table : List ℕ) (sources : List (List ℕ)) → Order
  Lint : (table : List ℕ) (sources : List (List ℕ)) → Order
  Dashed : Order

abbrev pub check_of : List Row → Order
check_of rows = Check (word_at (codes "TABLE") rows) (words_at (codes "SOURCE") rows)

abbrev pub build_of : List Row → Order
build_of rows = Build (word_at (codes "TABLE") rows) (word_at (codes "IMAGE") rows) (words_at (codes "SOURCE") rows)

abbrev pub run_of : List Row → Order
run_of rows = Run (word_at (codes "IMAGE") rows) (word_at (codes "DEVICES") rows) (word_at (codes "TICKS") rows) (words_at (codes "until") rows)

abbrev pub replay_of : List Row → Order
replay_of rows = Replay (word_at (codes "IMAGE") rows) (word_at (codes "PARTITION") rows) (word_at (codes "INPUTS") rows) (word_at (codes "TICKS") rows)

abbrev pub inputs_of : List Row → Order
inputs_of rows = Inputs (word_at (codes "IMAGE") rows) (word_at (codes "PARTITION") rows) (word_at (codes "DEVICES") rows) (word_at (codes "TICKS") rows)

abbrev pub cost_of : List Row → Order
cost_of rows = Cost (word_at (codes "TABLE") rows) (words_at (codes "SOURCE") rows)

abbrev pub dis_of : List Row → Order
dis_of rows = Dis (word_at (codes "IMAGE") rows)

abbrev pub upgrade_of : List Row → Order
upgrade_of rows = Upgrade (word_at (codes "OLD") rows) (word_at (codes "NEW") rows)

-- a flag that was entered
abbrev pub is_flagged : List ℕ → List Row → Bool
is_flagged name rows = bytes_eq (word_at name rows) (codes "true")

-- with both flags the picture
abbrev pub form_of : List Row → Form
form_of rows = if is_flagged (codes "svg") rows then Picture else if is_flagged (codes "csv") rows then Rows else Tables

-- the rows of a state as text or, with a flag, as JSON
abbrev pub row_form_of : List Row → RowForm
row_form_of rows = if is_flagged (codes "json") rows then row_form.Json else row_form.Text

-- The states before ticks that are so many ticks apart, if a word for that is given; with words for a row the first state with such a row;
-- else only the last.
abbrev pub moments_of : Option (List ℕ) → List (List ℕ) → Moments
moments_of None [] = states.Last
moments_of (Some word) [] = states.Every (digits_value 10 word)
moments_of every (word ∷ words) = states.First (word ∷ words)

-- those of all partitions, or of the module and the one that is named
abbrev pub wanted_of : List Row → Wanted
wanted_of rows = record {
  form = row_form_of rows;
  partition = first_of (codes "partition") rows;
  moments = moments_of (first_of (codes "every") rows) (words_at (codes "until") rows);
}

abbrev pub image_state_of : List Row → Order
image_state_of rows = ShowState (word_at (codes "IMAGE") rows) (word_at (codes "DEVICES") rows) (word_at (codes "TICK") rows) (first_of (codes "every") rows) (wanted_of rows)

-- the word for the image is that of a table, with a flag or if there are sources
abbrev pub names_of : List Row → Order
names_of rows = ShowNames (word_at (codes "IMAGE") rows) (words_at (codes "SOURCE") rows) (word_at (codes "DEVICES") rows) (word_at (codes "TICK") rows) (wanted_of rows)

abbrev pub are_any : List (List ℕ) → Bool
are_any [] = false
are_any (word ∷ words) = true

abbrev pub has_sources : List Row → Bool
has_sources rows = is_flagged (codes "sources") rows || are_any (words_at (codes "SOURCE") rows)

abbrev pub state_of : List Row → Order
state_of rows = if has_sources rows then names_of rows else image_state_of rows

abbrev pub load_of : List Row → Order
load_of rows = Load (form_of rows) (word_at (codes "TABLE") rows) (words_at (codes "SOURCE") rows)

abbrev pub lint_of : List Row → Order
lint_of rows = Lint (word_at (codes "TABLE") rows) (words_at (codes "SOURCE") rows)

-- a command by its name
abbrev pub order_named : List ℕ → List Row → Order
order_named name rows =
    if bytes_eq name (codes "check") then check_of rows
    else if bytes_eq name (codes "build") then build_of rows
    else if bytes_eq name (codes "run") then run_of rows
    else if bytes_eq name (codes "replay") then replay_of rows
    else if bytes_eq name (codes "inputs") then inputs_of rows
    else if bytes_eq name (codes "state") then state_of rows
    else if bytes_eq name (codes "cost") then cost_of rows
    else if bytes_eq name (codes "dis") then dis_of rows
    else if bytes_eq name (codes "upgrade") then upgrade_of rows
    else if bytes_eq name (codes "load") then load_of rows
    else if bytes_eq name (codes "lint") then lint_of rows
    else First

-- without a command the stored module
abbrev pub order_by_name : Entered → Order
order_by_name None = First
order_by_name (Some entered) = order_named entered.0 entered.1

-- the arguments that name a file or a partition, or give a number of ticks: all but the words of a line or a row that is
-- waited for
abbrev pub named : List (List ℕ)
named =
    codes "TABLE" ∷ codes "SOURCE" ∷ codes "IMAGE" ∷ codes "DEVICES" ∷ codes "PARTITION" ∷ codes "INPUTS" ∷ codes "TICKS" ∷ codes "TICK" ∷ codes "OLD" ∷ codes "NEW" ∷ []

abbrev pub is_dash : List ℕ → Bool
is_dash word = bytes_eq word (codes "-")

-- a word that was found for an argument is only `-`
abbrev pub has_dash_at : List Row → List ℕ → Bool
has_dash_at rows name = list_any is_dash (words_at name rows)

abbrev pub has_dash : List Row → Bool
has_dash rows = list_any (has_dash_at rows) named

abbrev pub is_dashed : Entered → Bool
is_dashed None = false
is_dashed (Some entered) = has_dash entered.1

-- what the words ask for
abbrev pub order_of : Entered → Order
order_of entered = if is_dashed entered then Dashed else order_by_name entered

-- whether the words ask for an explanation of a refusal, and how
abbrev pub is_asked : List Row → Bool
is_asked rows = is_flagged (codes "explain") rows || is_flagged (codes "explain-json") rows

abbrev pub asks : Entered → Bool
asks None = false
asks (Some entered) = is_asked entered.1

abbrev pub style_of : Entered → Style
style_of None = Plain
style_of (Some entered) = if is_flagged (codes "explain-json") entered.1 then Json else Plain
