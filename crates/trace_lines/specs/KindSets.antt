-- The kinds of lines, by the words in them.
use Rattle.std.specs.Prelude.{ℕ, Bool, true, false, List, [], ◌∷◌, Option, Some, None}
use Rattle.apex_types.specs.declared.event.EventKind.{EventKind}
use Rattle.apex_types.specs.declared.event.EventKind.TheVariants as event
use Rattle.trace_text.specs.Reading.{keyword_of}
use Rattle.trace_text.specs.declared.keyword.Keyword.{Keyword}
use Rattle.trace_text.specs.declared.keyword.Keyword.TheVariants as keyword
use Rattle.trace_lines.specs.declared.kinds.Kinds.{Kinds}

-- the keyword for what a line says
abbrev pub keyword_in : EventKind → Keyword
keyword_in (event.State who state) = keyword.State
keyword_in (event.Return who service code) = keyword.Return
keyword_in (event.Mode mode) = keyword.Mode
keyword_in (event.Error error who response) = keyword.Error
keyword_in (event.Report who words) = keyword.Report
keyword_in (event.Move port words) = keyword.Move
keyword_in (event.Arrive port words) = keyword.Arrive
keyword_in (event.Lost port words) = keyword.Lost
keyword_in (event.Out channel words) = keyword.Out

-- ---- sets of kinds

abbrev pub no_kinds : Kinds
no_kinds = record { state = false; ret = false; mode = false; hm = false; report = false; move_ = false; arrive = false; lost = false; out = false }

abbrev pub has_kind : Keyword → Kinds → Bool
has_kind keyword.State ks = ks.state
has_kind keyword.Return ks = ks.ret
has_kind keyword.Mode ks = ks.mode
has_kind keyword.Error ks = ks.hm
has_kind keyword.Report ks = ks.report
has_kind keyword.Move ks = ks.move_
has_kind keyword.Arrive ks = ks.arrive
has_kind keyword.Lost ks = ks.lost
has_kind keyword.Out ks = ks.out

abbrev pub with_kind : Keyword → Kinds → Kinds
with_kind keyword.State ks = record ks { state = true }
with_kind keyword.Return ks = record ks { ret = true }
with_kind keyword.Mode ks = record ks { mode = true }
with_kind keyword.Error ks = record ks { hm = true }
with_kind keyword.Report ks = record ks { report = true }
with_kind keyword.Move ks = record ks { move_ = true }
with_kind keyword.Arrive ks = record ks { arrive = true }
with_kind keyword.Lost ks = record ks { lost = true }
with_kind keyword.Out ks = record ks { out = true }

-- these kinds, and those of the words; none if one of the words is of no kind
abbrev pub with_word : Option Keyword → Kinds → Option Kinds
with_word None ks = None
with_word (Some k) ks = Some (with_kind k ks)

abbrev pub with_words : List (List ℕ) → Option Kinds → Option Kinds
with_words words None = None
with_words [] (Some ks) = Some ks
with_words (word ∷ words) (Some ks) = with_words words (with_word (keyword_of word) ks)
