-- The words and readers of the code as the definitions see them.
use Rattle.std.specs.Prelude.{◌≡◌, ℕ, List, length, map, Option, Some, None, Result, Ok, Err}
use Rattle.pal_base.specs.declared.fault.Refusal.{Refusal}
use Rattle.pal_base.specs.declared.fault.Refusal.TheVariants as refusal
use Rattle.pal_base.specs.declared.source.Rank.{Rank}
use Rattle.pal_base.specs.declared.source.Rank.TheVariants as rank
use Rattle.pal_base.specs.declared.source.ReadError.{ReadError}
use Rattle.pal_base.specs.declared.source.ReadError.TheVariants.{Memory, Refused}
use Rattle.pal_base.specs.declared.source.Source.{Source}
use Rattle.pal_base.specs.declared.word.Token.{Token}
use Rattle.pal_base.specs.View.{texts}
use Rattle.pal_base.specs.WordView.{token_of}
use Rattle.pal_laws.specs.GrammarReading.{Answer}
use Rattle.pal_meaning.specs.Grammar as grammar

abbrev pub rank_of : Rank → grammar.Rank
rank_of rank.Disjunction = grammar.Disjunction
rank_of rank.Conjunction = grammar.Conjunction
rank_of rank.Comparison = grammar.Comparison
rank_of rank.Sum = grammar.Sum
rank_of rank.Product = grammar.Product

-- the number of ranks that bind more
abbrev pub looseness : Rank → ℕ
looseness rank.Disjunction = 4
looseness rank.Conjunction = 3
looseness rank.Comparison = 2
looseness rank.Sum = 1
looseness rank.Product = 0

abbrev pub names_of : Source → List (List ℕ)
names_of s = texts s.names.keys

-- the words of these tokens of the source
abbrev pub seen : Source → List Token → List grammar.Word
seen s ts = map (token_of (names_of s)) ts

-- The code refuses only if reading refuses, with as many words left; it may always run out of
-- memory.
abbrev pub Refuses : {Y : Type 0} → ReadError → Answer Y → Type 0
Refuses Memory read = Unit {0}
Refuses (Refused misfit) read = read ≡ Err misfit.left

-- `left` words are left where reading refuses them
abbrev pub IsLeft : ReadError → ℕ → Type 0
IsLeft Memory left = ⊥
IsLeft (Refused misfit) left = misfit.left ≡ left

-- the refusal of a whole text
abbrev pub refusal_of : ReadError → Refusal
refusal_of Memory = refusal.Memory
refusal_of (Refused line) = refusal.Grammar

-- The code finds the same as reading, unless memory runs out.
abbrev pub Gives : {X Y : Type 0} → (X → Y) → Result X ReadError → Answer Y → Type 0
Gives view (Ok x) read = read ≡ Ok (view x)
Gives view (Err error) read = Refuses error read

-- The code finds the same as reading at the front of some words, for something that may be missing;
-- if it is missing, all words are left.
abbrev pub Finds : {X Y : Type 0} → (X → Y) → List grammar.Word → Option X → Answer Y → Type 0
Finds view words (Some x) read = read ≡ Ok (view x)
Finds view words None read = read ≡ Err (length words)
