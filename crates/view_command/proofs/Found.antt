-- The arguments found in the words.
use Rattle.std.proofs.Common.{◌≡◌, inl, inr, codes, ℕ, List, [], Option, None, Some, Result, Ok, Err, sym, ap, refl, subst, ◌∙◌, Bor}
use Rattle.std.specs.Prelude.{option_map, true, IfErr}
use Rattle.clap.specs.Kinds as clap_kinds
use Rattle.clap.specs.Matches.{first_value}
use Rattle.clap.specs.Simple.{is_simple}
use Rattle.clap.specs.Walk.{Row, first_of, rows_of}
use Rattle.clap.specs.declared.error.kind.ErrorKind.{ErrorKind}
use Rattle.clap.specs.declared.error.kind.ErrorKind.TheVariants as kind
use Rattle.clap.specs.declared.parser.matches.Found.{Found}
use Rattle.clap.proofs.WalkLemmas.{first_value-rows}
use Rattle.command_words.specs.Found.{Entered, word_at, words_at}
use Rattle.command_words.specs.Kinds.{IsMistake}
use Rattle.command_words.specs.Numbers.{ReadsNumber, number_in}
use Rattle.command_words.specs.declared.failure.Failure.{Failure}
use Rattle.command_words.specs.declared.failure.Failure.TheVariants.{Refused, Usage}
use Rattle.view_command.specs.Answers.{IsEndFailure, IsFailureOfWords, IsInputFailure, IsKindFailure, IsLimitFailure, IsNothingAsked, IsRunFailure, IsTickFailure, IsWidthFailure, IsWordsFailure}
use Rattle.text_lines.specs.Pieces.{pieces_of}
use Rattle.trace_lines.specs.KindSets.{no_kinds, with_words}
use Rattle.trace_lines.specs.declared.kinds.Kinds.{Kinds}
use Rattle.view_command.specs.Orders.{AreKindsIn, AreWrongTicks, AreWrongWords, EndsBefore, IsNoKind, IsNoTick, IsTickOf, from_in, ran_in}
use Rattle.view_command.specs.Words.{view_app}
use Rattle.view_command.specs.declared.refusal.Refusal.{Refusal}
use Rattle.view_command.specs.declared.refusal.Refusal.TheVariants as refusal

-- ---- the words for ticks

pub no_word : (f : Found) (name : List ℕ) (given : Option (Bor (List ℕ))) → option_map (λ s. s.now) given ≡ first_value f name → None ≡ given → IsTickOf (first_of name (rows_of f)) None
no_word f name None found is = subst (λ o. IsTickOf o None) (found ∙ first_value-rows f name) tt
no_word f name (Some w) found is = absurd cc

-- the word that was found is the first of its name
one_word : (f : Found) (name : List ℕ) (given : Option (Bor (List ℕ))) (w : Bor (List ℕ)) → option_map (λ s. s.now) given ≡ first_value f name → Some w ≡ given → Some w.now ≡ first_of name (rows_of f)
one_word f name given w found is = ap (option_map (λ (s : Bor (List ℕ)). s.now)) is ∙ found ∙ first_value-rows f name

pub tick_word : (f : Found) (name : List ℕ) (given : Option (Bor (List ℕ))) (w : Bor (List ℕ)) (r : Option ℕ) (n : ℕ) → option_map (λ s. s.now) given ≡ first_value f name → Some w ≡ given
    → ReadsNumber w.now r → Some n ≡ r → IsTickOf (first_of name (rows_of f)) (Some n)
tick_word f name given w r n found is reads some = subst (λ o. IsTickOf o (Some n)) (one_word f name given w found is) (subst (ReadsNumber w.now) (sym some) reads)

pub bad_word : (f : Found) (name : List ℕ) (given : Option (Bor (List ℕ))) (w : Bor (List ℕ)) (r : Option ℕ) (k : ErrorKind) → option_map (λ s. s.now) given ≡ first_value f name → Some w ≡ given
    → ReadsNumber w.now r → None ≡ r → k ≡ kind.ValueValidation → IsNoTick (first_of name (rows_of f)) × IsMistake k
bad_word f name given w r k found is reads none invalid =
    (subst IsNoTick (one_word f name given w found is) (subst (ReadsNumber w.now) (sym none) reads), ((λ help. cc), (λ version. cc)))

pub bad_kinds : (f : Found) (name : List ℕ) (given : Option (Bor (List ℕ))) (w : Bor (List ℕ)) (r : Option Kinds) (k : ErrorKind) → option_map (λ s. s.now) given ≡ first_value f name → Some w ≡ given
    → r ≡ with_words (pieces_of 44 (Some w.now)) (Some no_kinds) → None ≡ r → k ≡ kind.ValueValidation → IsNoKind (first_of name (rows_of f)) × IsMistake k
bad_kinds f name given w r k found is reads none invalid =
    (subst IsNoKind (one_word f name given w found is) (sym reads ∙ sym none), ((λ help. cc), (λ version. cc)))

pub some_kinds : (f : Found) (name : List ℕ) (given : Option (Bor (List ℕ))) (w : Bor (List ℕ)) (r : Option Kinds) (ks : Kinds) → option_map (λ s. s.now) given ≡ first_value f name → Some w ≡ given
    → r ≡ with_words (pieces_of 44 (Some w.now)) (Some no_kinds) → Some ks ≡ r → AreKindsIn (first_of name (rows_of f)) (Some ks)
some_kinds f name given w r ks found is reads some = subst (λ o. AreKindsIn o (Some ks)) (one_word f name given w found is) (sym reads ∙ sym some)

pub no_kinds_asked : (f : Found) (name : List ℕ) (given : Option (Bor (List ℕ))) → option_map (λ s. s.now) given ≡ first_value f name → None ≡ given → AreKindsIn (first_of name (rows_of f)) None
no_kinds_asked f name None found is = subst (λ o. AreKindsIn o None) (found ∙ first_value-rows f name) tt
no_kinds_asked f name (Some w) found is = absurd cc

-- the number of a word is that which is read
pub value_of : (word : Option (List ℕ)) (n : Option ℕ) → IsTickOf word n → n ≡ option_map number_in word
value_of None None is = refl
value_of None (Some n) is = absurd is
value_of (Some word) None is = absurd is
value_of (Some word) (Some n) is = ap Some is.1

-- ---- a word that its option does not take is a wrong word

pub tick_wrong : (name : List ℕ) (rows : List Row) (f : Failure Refusal) → (IsNoTick (first_of name rows) → AreWrongWords rows) → IsTickFailure (first_of name rows) f → IsWordsFailure rows f
tick_wrong name rows (Usage e) is h = (is h.0, h.1)
tick_wrong name rows (Refused (refusal.Open shown)) is h = absurd h
tick_wrong name rows (Refused (refusal.Read shown)) is h = absurd h
tick_wrong name rows (Refused (refusal.Line number shown)) is h = absurd h
tick_wrong name rows (Refused (refusal.Late number shown)) is h = absurd h
tick_wrong name rows (Refused refusal.TooMany) is h = absurd h
tick_wrong name rows (Refused (refusal.Crowded shapes from until elements)) is h = absurd h
tick_wrong name rows (Refused (refusal.Table fault shown)) is h = absurd h
tick_wrong name rows (Refused (refusal.NoRow number shown)) is h = absurd h
tick_wrong name rows (Refused (refusal.Foreign partition)) is h = absurd h
tick_wrong name rows (Refused (refusal.Unknown line)) is h = absurd h
tick_wrong name rows (Refused refusal.Memory) is h = tt
tick_wrong name rows (Refused refusal.Write) is h = absurd h

pub kind_wrong : (name : List ℕ) (rows : List Row) (f : Failure Refusal) → (IsNoKind (first_of name rows) → AreWrongWords rows) → IsKindFailure (first_of name rows) f → IsWordsFailure rows f
kind_wrong name rows (Usage e) is h = (is h.0, h.1)
kind_wrong name rows (Refused (refusal.Open shown)) is h = absurd h
kind_wrong name rows (Refused (refusal.Read shown)) is h = absurd h
kind_wrong name rows (Refused (refusal.Line number shown)) is h = absurd h
kind_wrong name rows (Refused (refusal.Late number shown)) is h = absurd h
kind_wrong name rows (Refused refusal.TooMany) is h = absurd h
kind_wrong name rows (Refused (refusal.Crowded shapes from until elements)) is h = absurd h
kind_wrong name rows (Refused (refusal.Table fault shown)) is h = absurd h
kind_wrong name rows (Refused (refusal.NoRow number shown)) is h = absurd h
kind_wrong name rows (Refused (refusal.Foreign partition)) is h = absurd h
kind_wrong name rows (Refused (refusal.Unknown line)) is h = absurd h
kind_wrong name rows (Refused refusal.Memory) is h = tt
kind_wrong name rows (Refused refusal.Write) is h = absurd h

pub limit_wrong : (rows : List Row) (f : Failure Refusal) → IsLimitFailure (words_at (codes "at-most") rows) f → IsWordsFailure rows f
limit_wrong rows (Usage e) h = (inr (inr (inr (inl h.0))), h.1)
limit_wrong rows (Refused (refusal.Open shown)) h = absurd h
limit_wrong rows (Refused (refusal.Read shown)) h = absurd h
limit_wrong rows (Refused (refusal.Line number shown)) h = absurd h
limit_wrong rows (Refused (refusal.Late number shown)) h = absurd h
limit_wrong rows (Refused refusal.TooMany) h = absurd h
limit_wrong rows (Refused (refusal.Crowded shapes from until elements)) h = absurd h
limit_wrong rows (Refused (refusal.Table fault shown)) h = absurd h
limit_wrong rows (Refused (refusal.NoRow number shown)) h = absurd h
limit_wrong rows (Refused (refusal.Foreign partition)) h = absurd h
limit_wrong rows (Refused (refusal.Unknown line)) h = absurd h
limit_wrong rows (Refused refusal.Memory) h = tt
limit_wrong rows (Refused refusal.Write) h = absurd h

-- the word is no width of a picture
pub width_wrong : (rows : List Row) (f : Failure Refusal) → IsWidthFailure (first_of (codes "width") rows) f → IsWordsFailure rows f
width_wrong rows (Usage e) h = (inr (inr (inr (inr (inr (inl h.0))))), h.1)
width_wrong rows (Refused (refusal.Open shown)) h = absurd h
width_wrong rows (Refused (refusal.Read shown)) h = absurd h
width_wrong rows (Refused (refusal.Line number shown)) h = absurd h
width_wrong rows (Refused (refusal.Late number shown)) h = absurd h
width_wrong rows (Refused refusal.TooMany) h = absurd h
width_wrong rows (Refused (refusal.Crowded shapes from until elements)) h = absurd h
width_wrong rows (Refused (refusal.Table fault shown)) h = absurd h
width_wrong rows (Refused (refusal.NoRow number shown)) h = absurd h
width_wrong rows (Refused (refusal.Foreign partition)) h = absurd h
width_wrong rows (Refused (refusal.Unknown line)) h = absurd h
width_wrong rows (Refused refusal.Memory) h = tt
width_wrong rows (Refused refusal.Write) h = absurd h

-- both traces are the standard input
pub inputs_wrong : (rows : List Row) (first second : List ℕ) (f : Failure Refusal) → first ≡ word_at (codes "TRACE") rows → second ≡ word_at (codes "OTHER") rows → IsInputFailure first second f → IsWordsFailure rows f
inputs_wrong rows first second (Usage e) one two h = (inr (inr (inr (inr (inr (inr (sym one ∙ h.0, sym two ∙ h.1)))))), h.2)
inputs_wrong rows first second (Refused (refusal.Open shown)) one two h = absurd h
inputs_wrong rows first second (Refused (refusal.Read shown)) one two h = absurd h
inputs_wrong rows first second (Refused (refusal.Line number shown)) one two h = absurd h
inputs_wrong rows first second (Refused (refusal.Late number shown)) one two h = absurd h
inputs_wrong rows first second (Refused refusal.TooMany) one two h = absurd h
inputs_wrong rows first second (Refused (refusal.Crowded shapes from until elements)) one two h = absurd h
inputs_wrong rows first second (Refused (refusal.Table fault shown)) one two h = absurd h
inputs_wrong rows first second (Refused (refusal.NoRow number shown)) one two h = absurd h
inputs_wrong rows first second (Refused (refusal.Foreign partition)) one two h = absurd h
inputs_wrong rows first second (Refused (refusal.Unknown line)) one two h = absurd h
inputs_wrong rows first second (Refused refusal.Memory) one two h = tt
inputs_wrong rows first second (Refused refusal.Write) one two h = absurd h

-- the words for ticks leave none
pub end_wrong : (rows : List Row) (from : ℕ) (end : Option ℕ) (f : Failure Refusal) → (EndsBefore from end → AreWrongTicks rows) → IsEndFailure from end f → IsWordsFailure rows f
end_wrong rows from end (Usage e) is h = (inl (is h.0), h.1)
end_wrong rows from end (Refused (refusal.Open shown)) is h = absurd h
end_wrong rows from end (Refused (refusal.Read shown)) is h = absurd h
end_wrong rows from end (Refused (refusal.Line number shown)) is h = absurd h
end_wrong rows from end (Refused (refusal.Late number shown)) is h = absurd h
end_wrong rows from end (Refused refusal.TooMany) is h = absurd h
end_wrong rows from end (Refused (refusal.Crowded shapes first until elements)) is h = absurd h
end_wrong rows from end (Refused (refusal.Table fault shown)) is h = absurd h
end_wrong rows from end (Refused (refusal.NoRow number shown)) is h = absurd h
end_wrong rows from end (Refused (refusal.Foreign partition)) is h = absurd h
end_wrong rows from end (Refused (refusal.Unknown line)) is h = absurd h
end_wrong rows from end (Refused refusal.Memory) is h = tt
end_wrong rows from end (Refused refusal.Write) is h = absurd h

pub no_ticks_to : (rows : List Row) (from : ℕ) (end : Option ℕ) → from ≡ from_in (first_of (codes "from") rows) → end ≡ option_map number_in (first_of (codes "to") rows) → EndsBefore from end → AreWrongTicks rows
no_ticks_to rows from end one two h =
    inr (inr (inr (inl (subst (λ (e : Option ℕ). EndsBefore (from_in (first_of (codes "from") rows)) e) two (subst (λ (n : ℕ). EndsBefore n end) one h)))))

pub no_ticks_run : (rows : List Row) (from : ℕ) (end : Option ℕ) → from ≡ from_in (first_of (codes "from") rows) → end ≡ ran_in rows → EndsBefore from end → AreWrongTicks rows
no_ticks_run rows from end one two h =
    inr (inr (inr (inr (subst (λ (e : Option ℕ). EndsBefore (from_in (first_of (codes "from") rows)) e) two (subst (λ (n : ℕ). EndsBefore n end) one h)))))

-- the word is no number of ticks
pub run_wrong : (rows : List Row) (f : Failure Refusal) → IsRunFailure (first_of (codes "ticks") rows) f → IsWordsFailure rows f
run_wrong rows (Usage e) h = (inl (inr (inr (inl h.0))), h.1)
run_wrong rows (Refused (refusal.Open shown)) h = absurd h
run_wrong rows (Refused (refusal.Read shown)) h = absurd h
run_wrong rows (Refused (refusal.Line number shown)) h = absurd h
run_wrong rows (Refused (refusal.Late number shown)) h = absurd h
run_wrong rows (Refused refusal.TooMany) h = absurd h
run_wrong rows (Refused (refusal.Crowded shapes from until elements)) h = absurd h
run_wrong rows (Refused (refusal.Table fault shown)) h = absurd h
run_wrong rows (Refused (refusal.NoRow number shown)) h = absurd h
run_wrong rows (Refused (refusal.Foreign partition)) h = absurd h
run_wrong rows (Refused (refusal.Unknown line)) h = absurd h
run_wrong rows (Refused refusal.Memory) h = tt
run_wrong rows (Refused refusal.Write) h = absurd h

pub view_is_simple : is_simple view_app ≡ true
view_is_simple = refl

-- ---- the words as a whole

-- words that the library takes, which ask for nothing
pub nothing_asked : {T : Type 0} (kinds : clap_kinds.Kinds) (own entered : Entered) (answer : Result T (Failure Refusal)) → kinds ≡ [] → own ≡ entered
    → IfErr answer (λ f. IsNothingAsked own f) → IfErr answer (λ f. IsFailureOfWords kinds entered f)
nothing_asked kinds own entered answer none same h = go answer (subst (λ o. IfErr answer (λ f. IsNothingAsked o f)) same h)
  where
    go : {T : Type 0} (answer : Result T (Failure Refusal)) → IfErr answer (λ f. IsNothingAsked entered f) → IfErr answer (λ f. IsFailureOfWords kinds entered f)
    go (Ok x) h = tt
    go (Err (Refused (refusal.Open shown))) h = h
    go (Err (Refused (refusal.Read shown))) h = h
    go (Err (Refused (refusal.Line number shown))) h = h
    go (Err (Refused (refusal.Late number shown))) h = h
    go (Err (Refused refusal.TooMany)) h = h
    go (Err (Refused (refusal.Crowded shapes from until elements))) h = h
    go (Err (Refused (refusal.Table fault shown))) h = h
    go (Err (Refused (refusal.NoRow number shown))) h = h
    go (Err (Refused (refusal.Foreign partition))) h = h
    go (Err (Refused (refusal.Unknown line))) h = h
    go (Err (Refused refusal.Memory)) h = tt
    go (Err (Refused refusal.Write)) h = h
    go (Err (Usage e)) h = inr (none, h.0, h.1)

-- ---- the text of an option

pub text_word : (f : Found) (name : List ℕ) (given : Option (Bor (List ℕ))) (w : Bor (List ℕ)) (text : List ℕ) → option_map (λ s. s.now) given ≡ first_value f name → Some w ≡ given
    → text ≡ w.now → Some text ≡ first_of name (rows_of f)
text_word f name given w text found is same = ap Some same ∙ one_word f name given w found is

pub no_text : (f : Found) (name : List ℕ) (given : Option (Bor (List ℕ))) → option_map (λ s. s.now) given ≡ first_value f name → None ≡ given → None ≡ first_of name (rows_of f)
no_text f name None found is = found ∙ first_value-rows f name
no_text f name (Some w) found is = absurd cc
