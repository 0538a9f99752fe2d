-- The request in the words.
use Rattle.std.specs.Prelude.{◌≡◌, ◌≢◌, ◌⊎◌, ℕ, ◌<◌, ◌≤◌, ◌&&◌, false, nat_le, min, List, [], ◌∷◌, Option, Some, None, option_map, codes, string_bytes}
use Rattle.std.specs.Str.Parse.{IsNumeral}
use Rattle.std.specs.declared.alloc.Global.{Global}
use Rattle.std.specs.declared.string.String.{String}
use Rattle.apex_types.specs.declared.identity.Ticks.{Ticks}
use Rattle.apex_types.specs.Limits.{MOST_TICKS}
use Rattle.clap.specs.Walk.{Row, first_of}
use Rattle.command_words.specs.Found.{Entered, word_at, words_at}
use Rattle.command_words.specs.Numbers.{number_in}
use Rattle.text_lines.specs.Pieces.{pieces_of}
use Rattle.trace_lines.specs.KindSets.{no_kinds, with_words}
use Rattle.trace_lines.specs.declared.filter.Filter.{Filter}
use Rattle.trace_lines.specs.declared.kinds.Kinds.{Kinds}
use Rattle.view_command.specs.declared.request.Request.{Request}
use Rattle.view_command.specs.declared.request.Request.TheVariants.{Compare, Dump, Show, Summaries}
use Rattle.view_command.specs.declared.request.Showing.{Showing}

-- the words of the command
abbrev pub rows_in : Entered → List Row
rows_in None = []
rows_in (Some entered) = entered.1

-- the name of the trace
abbrev pub trace_of : Entered → List ℕ
trace_of None = []
trace_of (Some entered) = word_at (codes "TRACE") entered.1

-- the name of the other trace, with which a trace is compared
abbrev pub other_of : Entered → List ℕ
other_of None = []
other_of (Some entered) = word_at (codes "OTHER") entered.1

-- the name of the module table, by whose windows ticks are counted or whose names are known, if one is asked for
abbrev pub table_of : Entered → Option (List ℕ)
table_of None = None
table_of (Some entered) = first_of (codes "table") entered.1

-- the name of the text of states, if a page is to show them
abbrev pub states_of : Entered → Option (List ℕ)
states_of None = None
states_of (Some entered) = first_of (codes "state") entered.1

abbrev pub asked_text : Option (String Global) → Option (List ℕ)
asked_text asked = option_map string_bytes asked

-- the first tick that is shown
abbrev pub from_in : Option (List ℕ) → ℕ
from_in None = 0
from_in (Some word) = number_in word

-- for how many ticks the module ran, if that is given
abbrev pub ran_in : List Row → Option ℕ
ran_in rows = option_map number_in (first_of (codes "ticks") rows)

abbrev pub ran_of : Entered → Option ℕ
ran_of entered = ran_in (rows_in entered)

-- the earlier of two ends, each of which may be left out
abbrev pub end_of : Option ℕ → Option ℕ → Option ℕ
end_of None None = None
end_of (Some to) None = Some to
end_of None (Some ran) = Some ran
end_of (Some to) (Some ran) = Some (min to ran)

-- the number of ticks, if it is given
abbrev pub number_of : Option Ticks → Option ℕ
number_of ticks = option_map (λ (t : Ticks). t.0) ticks

-- The ticks that are shown: from that of `--from` on, or all, and before that of `--to`, or the end of the run if it is
-- earlier or the only one that is given.
pub record AreTicksIn (rows : List Row) (from : Ticks) (to ran : Option Ticks) : Type 0 where
  pub first : from.0 ≡ from_in (first_of (codes "from") rows)
  pub end : number_of to ≡ end_of (option_map number_in (first_of (codes "to") rows)) (ran_in rows)
  pub run : number_of ran ≡ ran_in rows

-- the kinds of lines in a word, if it is there
abbrev pub AreKindsIn : Option (List ℕ) → Option Kinds → Type 0
AreKindsIn None None = Unit {0}
AreKindsIn (Some text) (Some kinds) = with_words (pieces_of 44 (Some text)) (Some no_kinds) ≡ Some kinds
AreKindsIn _ _ = ⊥

-- The filter asks for what the words name, in any tick.
pub record AreNamesIn (rows : List Row) (f : Filter) : Type 0 where
  pub kinds : AreKindsIn (first_of (codes "kind") rows) f.kinds
  pub partition : asked_text f.partition ≡ first_of (codes "partition") rows
  pub process : asked_text f.process ≡ first_of (codes "process") rows
  pub port : asked_text f.port ≡ first_of (codes "port") rows

-- two traces are to be compared
abbrev pub IsDiff : Entered → Type 0
IsDiff None = ⊥
IsDiff (Some entered) = entered.0 ≡ codes "diff"

-- the summaries of two traces are to be shown side by side
abbrev pub IsOfBoth : Entered → Type 0
IsOfBoth None = ⊥
IsOfBoth (Some entered) = entered.0 ≡ codes "compare"

-- a trace is to be shown as waves
abbrev pub IsDump : Entered → Type 0
IsDump None = ⊥
IsDump (Some entered) = entered.0 ≡ codes "vcd"

-- the words of a command that shows a trace
abbrev pub IsShown : List Row → Showing → Type 0
IsShown rows showing =
    (string_bytes showing.trace ≡ word_at (codes "TRACE") rows) × (asked_text showing.table ≡ first_of (codes "table") rows)
    × AreTicksIn rows showing.from showing.to showing.ran × AreNamesIn rows showing.kept × (asked_text showing.states ≡ first_of (codes "state") rows)

-- the words of a command that shows a trace as waves, or saves how they are viewed
abbrev pub IsDumped : List Row → Request → Type 0
IsDumped rows (Show view showing) = IsShown rows showing
IsDumped rows (Dump showing) = IsShown rows showing
IsDumped rows (Compare pair) = ⊥
IsDumped rows (Summaries both) = ⊥

-- the words of a command that compares two
abbrev pub IsCompared : List Row → Request → Type 0
IsCompared rows (Show view showing) = ⊥
IsCompared rows (Dump showing) = ⊥
IsCompared rows (Summaries both) = ⊥
IsCompared rows (Compare pair) =
    (string_bytes pair.first ≡ word_at (codes "TRACE") rows) × (string_bytes pair.second ≡ word_at (codes "OTHER") rows)
    × (asked_text pair.table ≡ first_of (codes "table") rows)

-- the words of a command that shows the summaries of two
abbrev pub AreBothShown : List Row → Request → Type 0
AreBothShown rows (Show view showing) = ⊥
AreBothShown rows (Dump showing) = ⊥
AreBothShown rows (Compare pair) = ⊥
AreBothShown rows (Summaries both) = IsShown rows both.showing × (string_bytes both.other ≡ word_at (codes "OTHER") rows)

-- the trace that the words found name, and what of it they ask for
abbrev pub IsAsked : Entered → Showing → Type 0
IsAsked entered showing =
    (IsDiff entered → ⊥) × (string_bytes showing.trace ≡ trace_of entered) × (asked_text showing.table ≡ table_of entered)
    × AreTicksIn (rows_in entered) showing.from showing.to showing.ran × AreNamesIn (rows_in entered) showing.kept
    × (asked_text showing.states ≡ states_of entered)

-- the request that the words found make
abbrev pub IsRequest : Entered → Request → Type 0
IsRequest entered (Show view showing) = IsAsked entered showing × (IsOfBoth entered → ⊥)
IsRequest entered (Dump showing) = IsDump entered × IsAsked entered showing
IsRequest entered (Summaries both) = IsOfBoth entered × IsAsked entered both.showing × (string_bytes both.other ≡ other_of entered)
IsRequest entered (Compare pair) =
    IsDiff entered × (string_bytes pair.first ≡ trace_of entered) × (string_bytes pair.second ≡ other_of entered) × (asked_text pair.table ≡ table_of entered)

-- the tick of an optional word
abbrev pub IsTickOf : Option (List ℕ) → Option ℕ → Type 0
IsTickOf None None = Unit {0}
IsTickOf (Some word) (Some n) = IsNumeral 10 word × (n ≡ number_in word)
IsTickOf _ _ = ⊥

-- the word is there, and is not written in digits
abbrev pub IsNoTick : Option (List ℕ) → Type 0
IsNoTick None = ⊥
IsNoTick (Some word) = IsNumeral 10 word → ⊥

-- no tick is from the first one on and before this end
abbrev pub EndsBefore : ℕ → Option ℕ → Type 0
EndsBefore from None = ⊥
EndsBefore from (Some end) = end ≤ from

abbrev pub AreNoTicks : Option (List ℕ) → Option (List ℕ) → Type 0
AreNoTicks from end = EndsBefore (from_in from) (option_map number_in end)

-- no module runs for that number of ticks
abbrev pub IsBeyond : Option ℕ → Type 0
IsBeyond None = ⊥
IsBeyond (Some ticks) = MOST_TICKS < ticks

-- a picture is not so wide
abbrev pub IsNoPixels : Option ℕ → Type 0
IsNoPixels None = ⊥
IsNoPixels (Some pixels) = nat_le 1200 pixels && nat_le pixels 30000 ≡ false

-- the width of a picture, in pixels
abbrev pub width_in : Option (List ℕ) → ℕ
width_in None = 1200
width_in (Some word) = number_in word

-- the word is there, and is no such number
abbrev pub IsNoRun : Option (List ℕ) → Type 0
IsNoRun word = IsNoTick word ⊎ IsBeyond (option_map number_in word)

-- the word is there, and is no number of pixels that a picture may be wide
abbrev pub IsNoWidth : Option (List ℕ) → Type 0
IsNoWidth word = IsNoTick word ⊎ IsNoPixels (option_map number_in word)

-- the words for ticks are no ticks, or leave none
abbrev pub AreWrongTicks : List Row → Type 0
AreWrongTicks rows =
    IsNoTick (first_of (codes "from") rows) ⊎ IsNoTick (first_of (codes "to") rows) ⊎ IsNoRun (first_of (codes "ticks") rows)
    ⊎ AreNoTicks (first_of (codes "from") rows) (first_of (codes "to") rows) ⊎ AreNoTicks (first_of (codes "from") rows) (first_of (codes "ticks") rows)

-- ---- kinds of lines, and how many of them there may be

-- a word of the text, between commas, is no kind of line
abbrev pub AreNoKinds : List ℕ → Type 0
AreNoKinds text = with_words (pieces_of 44 (Some text)) (Some no_kinds) ≡ None

abbrev pub IsNoKind : Option (List ℕ) → Type 0
IsNoKind None = ⊥
IsNoKind (Some text) = AreNoKinds text

-- they are not kinds of lines and a number
abbrev pub IsNoLimit : List (List ℕ) → Type 0
IsNoLimit [] = ⊥
IsNoLimit (kinds ∷ number ∷ []) = AreNoKinds kinds ⊎ (IsNumeral 10 number → ⊥)
IsNoLimit _ = Unit {0}

-- ---- what is wrong in the words found

-- both traces are the standard input, which is read once
abbrev pub AreOneInput : List Row → Type 0
AreOneInput rows = (word_at (codes "TRACE") rows ≡ codes "-") × (word_at (codes "OTHER") rows ≡ codes "-")

-- a word is not one that its option takes, the ticks leave none, or both traces are one
abbrev pub AreWrongWords : List Row → Type 0
AreWrongWords rows =
    AreWrongTicks rows
    ⊎ IsNoKind (first_of (codes "kind") rows) ⊎ IsNoKind (first_of (codes "no") rows)
    ⊎ IsNoLimit (words_at (codes "at-most") rows) ⊎ IsNoTick (first_of (codes "missed") rows) ⊎ IsNoWidth (first_of (codes "width") rows)
    ⊎ AreOneInput rows

-- the command of this name shows no trace
abbrev pub IsNoView : List ℕ → Type 0
IsNoView name = (name ≢ codes "summary") × (name ≢ codes "svg") × (name ≢ codes "html") × (name ≢ codes "list") × (name ≢ codes "check")

-- the command has none of these names, and not that of a dump or of two traces
abbrev pub IsNoCommand : List ℕ → Type 0
IsNoCommand name = IsNoView name × (name ≢ codes "vcd") × (name ≢ codes "diff") × (name ≢ codes "compare")

-- the words found ask for nothing
abbrev pub AsksForNothing : Entered → Type 0
AsksForNothing None = Unit {0}
AsksForNothing (Some entered) = IsNoCommand entered.0 ⊎ AreWrongWords entered.1
