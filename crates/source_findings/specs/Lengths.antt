-- The body with which a program has more instructions than it may have, and the word at which it begins.
use Rattle.std.specs.Prelude.{ℕ, zero, suc, ◌+◌, ◌-◌, Bool, ◌&&◌, nat_lt, if◌then◌else◌, List, [], ◌∷◌, codes, length, Option, Some, None}
use Rattle.apex_types.specs.Limits.{MOST_INSTRUCTIONS}
use Rattle.engine_meaning.specs.Digits.{same}
use Rattle.pal.specs.declared.report.BodyCost.{BodyCost}
use Rattle.pal.specs.declared.report.BodyName.{BodyName}
use Rattle.pal.specs.declared.report.BodyName.TheVariants as body
use Rattle.pal_meaning.specs.Lines.{from_word}
use Rattle.source_findings.specs.Frames.{held}
use Rattle.source_findings.specs.What.{Instructions, Wrong}
use Rattle.source_places.specs.Words.{first_word, next_word}

-- The bodies of a program are in the order in which `mb cost` lists them, each with its number of instructions.

-- the first body that has more instructions than the bodies before it leave of `most`
abbrev pub passing : ℕ → List BodyCost → Option BodyCost
passing most [] = None
passing most (b ∷ bs) = if nat_lt most b.instructions then Some b else passing (most - b.instructions) bs

-- the instructions of all bodies; a number beyond 64 bits becomes the greatest of 64 bits
abbrev pub all_instructions : List BodyCost → ℕ
all_instructions [] = 0
all_instructions (b ∷ bs) = held (b.instructions + all_instructions bs)

-- ---- where a body begins

abbrev pub is_word : List ℕ → List ℕ → Bool
is_word word text = same (first_word text) word

-- a word, and the name that follows it
abbrev pub is_named : List ℕ → List ℕ → List ℕ → Bool
is_named word name text = is_word word text && is_word name (next_word text)

-- a text begins with the words with which this body begins
abbrev pub begins : BodyName → List ℕ → Bool
begins body.Init text = is_word (codes "init") text
begins body.Handler text = is_word (codes "handler") text
begins (body.Process name) text = is_named (codes "process") name text
begins (body.Procedure name) text = is_named (codes "proc") name text

-- a text from the first word at which this body begins; at most this many words are skipped
unfoldable pub from_body : ℕ → BodyName → List ℕ → List ℕ
from_body zero name text = text
from_body (suc n) name text = if begins name text then text else from_body n name (next_word text)

-- how many bytes are left at the first word of a body; a text has no more words than bytes
abbrev pub left_at : List ℕ → BodyName → ℕ
left_at text name = length (from_body (length text) name (from_word 0 text))

-- ---- what is wrong

abbrev pub wrongs_at : List ℕ → List BodyCost → Option BodyCost → List Wrong
wrongs_at text bodies None = []
wrongs_at text bodies (Some b) = record { left = left_at text b.name; what = Instructions (all_instructions bodies) b.instructions } ∷ []

-- the body with which a program of this text is too long, if it is
abbrev pub length_wrongs : List ℕ → List BodyCost → List Wrong
length_wrongs text bodies = wrongs_at text bodies (passing MOST_INSTRUCTIONS bodies)
