-- Where a text leaves the grammar.
use Rattle.std.specs.Prelude.{◌≡◌, ℕ, ◌-◌, ◌≤◌, List, Option, Some, None, length}
use Rattle.pal_meaning.specs.Beginning.{IsWhole, LeavesAt}
use Rattle.pal_meaning.specs.Grammar.{Word, words_of}
use Rattle.pal_meaning.specs.Lines.{word_line}
use Rattle.pal_base.specs.Lined.{HasFewLines}
use Rattle.pal_base.specs.declared.looking.LookedFor.{LookedFor}
use Rattle.pal_base.specs.declared.source.Misfit.{Misfit}

-- the place where these words leave the grammar, or none
abbrev pub IsMisfit : List Word → Option Misfit → Type 0
IsMisfit words None = IsWhole words
IsMisfit words (Some misfit) = (misfit.left ≤ length words) × LeavesAt words (length words - misfit.left)

-- The result of looking at a text outside the grammar: the place where its words leave the grammar, and
-- the line of that place. Which words are looked for there is not said.
abbrev pub IsLookedFor : List ℕ → Option LookedFor → Type 0
IsLookedFor text None = IsWhole (words_of text)
IsLookedFor text (Some it) = LeavesAt (words_of text) it.place × (HasFewLines text → it.line ≡ word_line text it.place)
