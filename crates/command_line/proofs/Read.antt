-- No file is named where texts are refused; and the names of the files that were read.
use Rattle.std.proofs.Common.{◌≡◌, ℕ, List, [], ◌∷◌, ◌++◌, length, map, drop, Bor, Some, None, Result, Ok, Err, IfErr, refl, sym, ap, subst, ◌∙◌, append-nil, append_assoc}
use Rattle.streams.specs.Reads.{Reads, Remembers}
use Rattle.command_line.specs.Done.{AreRead}
use Rattle.command_line.specs.Reading.{IsRefusedText, IsUncostedText}
use Rattle.command_line.specs.Told.{IsOfFailed}
use Rattle.command_line.specs.declared.refusal.Refusal.{Refusal}
use Rattle.command_line.specs.declared.refusal.Refusal.TheVariants.{Build, Run, Replay, Inputs, File, LongTable, Memory, Write}

pub unnamed_text : {A : Type 0} (old new : List (List ℕ)) (table_text : List ℕ) (texts : List (List ℕ)) (answer : Result A Refusal)
    → new ≡ old → IfErr answer (λ r. IsRefusedText table_text texts r) → IfErr answer (λ r. IsOfFailed old new r)
unnamed_text old new table_text texts (Ok x) same h = tt
unnamed_text old new table_text texts (Err (Build fault)) same h = same
unnamed_text old new table_text texts (Err (Run fault)) same h = same
unnamed_text old new table_text texts (Err (Replay fault)) same h = same
unnamed_text old new table_text texts (Err (Inputs fault)) same h = same
unnamed_text old new table_text texts (Err (File name reason)) same h = absurd h
unnamed_text old new table_text texts (Err (LongTable name)) same h = absurd h
unnamed_text old new table_text texts (Err Memory) same h = same
unnamed_text old new table_text texts (Err Write) same h = same

pub unnamed_costs : {A : Type 0} (old new : List (List ℕ)) (table_text : List ℕ) (texts : List (List ℕ)) (answer : Result A Refusal)
    → new ≡ old → IfErr answer (λ r. IsUncostedText table_text texts r) → IfErr answer (λ r. IsOfFailed old new r)
unnamed_costs old new table_text texts (Ok x) same h = tt
unnamed_costs old new table_text texts (Err (Build fault)) same h = same
unnamed_costs old new table_text texts (Err (Run fault)) same h = same
unnamed_costs old new table_text texts (Err (Replay fault)) same h = same
unnamed_costs old new table_text texts (Err (Inputs fault)) same h = same
unnamed_costs old new table_text texts (Err (File name reason)) same h = absurd h
unnamed_costs old new table_text texts (Err (LongTable name)) same h = absurd h
unnamed_costs old new table_text texts (Err Memory) same h = same
unnamed_costs old new table_text texts (Err Write) same h = same

-- ---- the names of the files that were read

pub read_first : (name : List ℕ) (names : List (List ℕ)) (old mid new : Reads) → Remembers name old mid → AreRead names mid new → AreRead (name ∷ names) old new
read_first name names None mid new one rest = tt
read_first name names (Some old) None new one rest = absurd one
read_first name names (Some old) (Some mid) None one rest = absurd rest
read_first name names (Some old) (Some mid) (Some new) one rest = rest ∙ ap (λ (ns : List (List ℕ)). ns ++ names) one ∙ append_assoc old (name ∷ []) names

none_read : (reads : Reads) → AreRead [] reads reads
none_read None = tt
none_read (Some names) = sym (append-nil names)

-- all files were read
pub all_read : (names : List (Bor (List ℕ))) (i : ℕ) (old new : Reads) → i ≡ length names
    → ((later : Reads) → AreRead (map (λ s. s.now) (drop i names)) new later → AreRead (map (λ s. s.now) names) old later) → AreRead (map (λ s. s.now) names) old new
all_read names i old new at before =
    let none : drop i names ≡ [] = ap (λ k. drop k names) at ∙ drop-all names in
    before new (subst (λ (ns : List (Bor (List ℕ))). AreRead (map (λ s. s.now) ns) new new) (sym none) (none_read new))
  where
    drop-all : {X : Type 0} (xs : List X) → drop (length xs) xs ≡ []
    drop-all [] = refl
    drop-all (x ∷ xs) = drop-all xs
