-- The arguments found in the words, and the errors of the words.
use Rattle.std.proofs.Common.{◌≡◌, ℕ, List, [], map, Option, None, Some, true, ap, refl, ◌∙◌, subst, Bor}
use Rattle.std.specs.Prelude.{option_map, unwrap_or}
use Rattle.clap.specs.Faults.{fault_of, is_simple_and_free}
use Rattle.clap.specs.Kinds.{Kinds}
use Rattle.clap.specs.Matches.{first_value, matched_of, raw_values}
use Rattle.clap.specs.Simple.{App, HasMatchesOf, app_of, is_simple, subcommand_of, subcommand_rows_of}
use Rattle.clap.specs.Walk.{rows_of}
use Rattle.clap.specs.declared.builder.command.Command.{Command}
use Rattle.clap.specs.declared.parser.matches.ArgMatches.{ArgMatches}
use Rattle.clap.specs.declared.parser.matches.Found.{Found}
use Rattle.clap.proofs.WalkLemmas.{first_value-rows, raw_values-rows}
use Rattle.command_words.specs.Found.{word_at, words_at}
use Rattle.command_words.specs.Grammar.{IsCommand}

pub word_is : (f : Found) (name : List ℕ) (given : Option (Bor (List ℕ))) (none word : Bor (List ℕ))
    → option_map (λ s. s.now) given ≡ first_value f name → none.now ≡ [] → word ≡ unwrap_or given none → word.now ≡ word_at name (rows_of f)
word_is f name given none word found empty is = ap (λ (s : Bor (List ℕ)). s.now) is ∙ go given ∙ ap (λ o. unwrap_or o []) (found ∙ first_value-rows f name)
  where
    go : (given : Option (Bor (List ℕ))) → (unwrap_or given none).now ≡ unwrap_or (option_map (λ s. s.now) given) []
    go None = empty
    go (Some s) = refl

pub words_are : (f : Found) (name : List ℕ) (given : Option (Bor (List (Bor (List ℕ))))) (none words : Bor (List (Bor (List ℕ))))
    → option_map (λ s. map (λ v. v.now) s.now) given ≡ option_map raw_values (matched_of f name) → none.now ≡ [] → words ≡ unwrap_or given none → map (λ s. s.now) words.now ≡ words_at name (rows_of f)
words_are f name given none words found empty is =
    ap (λ (s : Bor (List (Bor (List ℕ)))). map (λ (v : Bor (List ℕ)). v.now) s.now) is ∙ go given ∙ ap (λ o. unwrap_or o []) (found ∙ raw_values-rows f name)
  where
    go : (given : Option (Bor (List (Bor (List ℕ))))) → map (λ (v : Bor (List ℕ)). v.now) (unwrap_or given none).now ≡ unwrap_or (option_map (λ s. map (λ v. v.now) s.now) given) []
    go None = ap (map (λ (v : Bor (List ℕ)). v.now)) empty
    go (Some s) = refl

-- what a parse entered is what the words name
pub entered_is : (app : App) (words : List (List ℕ)) (command : Command) (m : ArgMatches)
    → IsCommand command app → is_simple app ≡ true → HasMatchesOf (app_of command) words m → subcommand_rows_of m ≡ subcommand_of app words
entered_is app words command m is simple h = (h (ap is_simple is.reads ∙ simple)).1 ∙ ap (λ a. subcommand_of a words) is.reads

-- a property of the errors of a command holds for the errors of its arguments
pub of_kinds : (app : App) (words : List (List ℕ)) (command : Command) (P : Kinds → Type 0)
    → IsCommand command app → is_simple_and_free app ≡ true → (is_simple_and_free (app_of command) ≡ true → P (fault_of (app_of command) words)) → P (fault_of app words)
of_kinds app words command P is free h = subst (λ a. P (fault_of a words)) is.reads (h (ap is_simple_and_free is.reads ∙ free))
