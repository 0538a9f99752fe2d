-- The load of the texts in the files that are named, of which a beginning was read.
use Rattle.std.proofs.Common.{◌≡◌, ℕ, List, [], ◌∷◌, Option, Result, Ok, Err, IfOk, IfErr, sym, subst}
use Rattle.streams.specs.Contents.{Contents}
use Rattle.text_beginnings.specs.Settled.{settles_source}
use Rattle.command_line.specs.Done.{IsLoadIn, IsTableIn}
use Rattle.command_line.specs.Loading.{AreLoaded, IsLoadOfText, IsRefusedTable, Shown}
use Rattle.command_line.specs.Reading.{HoldAllFrom, IsUncostedText}
use Rattle.command_line.specs.Refusals.{IsNoTableIn, IsNotLoadedFrom}
use Rattle.command_line.specs.Told.{IsOfFailed}
use Rattle.command_line.specs.declared.refusal.Refusal.{Refusal}
use Rattle.command_line.specs.declared.refusal.Refusal.TheVariants.{Build, Run, Replay, Inputs, File, LongTable, Memory, Write}
use Rattle.command_line.proofs.BegunModules.{loaded_of_files, uncosted_of_files}

-- ---- no source is named

module _ (files : Option Contents) (table bytes given : List ℕ) (is : given ≡ bytes) (held : IsTableIn files table bytes) where
  own_table : IsTableIn files table given
  own_table = subst (IsTableIn files table) (sym is) held

  pub alone : {A E : Type 0} (view : A → Shown) (names : List (List ℕ)) (answer : Result A E) → names ≡ [] → IfOk answer (λ x. IsLoadOfText given (view x)) → IfOk answer (λ x. IsLoadIn files table names (view x))
  alone view [] (Ok x) none h = (given, own_table, h)
  alone view (n ∷ names) (Ok x) none h = absurd cc
  alone view names (Err e) none h = tt

  no_table : (r : Refusal) → IsRefusedTable given r → IsNoTableIn files table r
  no_table (Build fault) h = (given, own_table, h)
  no_table (Run fault) h = absurd h
  no_table (Replay fault) h = absurd h
  no_table (Inputs fault) h = absurd h
  no_table (File name reason) h = absurd h
  no_table (LongTable name) h = absurd h
  no_table Memory h = tt
  no_table Write h = absurd h

  pub alone_refused : {A : Type 0} (names : List (List ℕ)) (answer : Result A Refusal) → names ≡ [] → IfErr answer (λ r. IsRefusedTable given r) → IfErr answer (λ r. IsNotLoadedFrom files table names r)
  alone_refused names (Ok x) none h = tt
  alone_refused [] (Err r) none h = no_table r h
  alone_refused (n ∷ names) (Err r) none h = absurd cc

-- ---- sources are named

pub together : {A E : Type 0} (view : A → Shown) (files now : Option Contents) (table : List ℕ) (names : List (List ℕ)) (first : List ℕ) (rest : List (List ℕ)) (bytes given : List ℕ) (texts : List (List ℕ)) (answer : Result A E)
    → names ≡ first ∷ rest → now ≡ files → given ≡ bytes → IsTableIn files table bytes → HoldAllFrom settles_source now names texts → IfOk answer (λ x. AreLoaded given texts (view x)) → IfOk answer (λ x. IsLoadIn files table names (view x))
together view files now table [] first rest bytes given texts (Ok x) some same is in_table in_sources h = absurd cc
together view files now table (n ∷ names) first rest bytes given texts (Ok x) some same is in_table in_sources h =
    loaded_of_files files now table (n ∷ names) bytes given texts same is in_table in_sources (view x) h
together view files now table names first rest bytes given texts (Err e) some same is in_table in_sources h = tt

pub together_refused : {A : Type 0} (files now : Option Contents) (table : List ℕ) (names : List (List ℕ)) (first : List ℕ) (rest : List (List ℕ)) (bytes given : List ℕ) (texts : List (List ℕ)) (answer : Result A Refusal)
    → names ≡ first ∷ rest → now ≡ files → given ≡ bytes → IsTableIn files table bytes → HoldAllFrom settles_source now names texts → IfErr answer (λ r. IsUncostedText given texts r) → IfErr answer (λ r. IsNotLoadedFrom files table names r)
together_refused files now table [] first rest bytes given texts answer some same is in_table in_sources h = absurd cc
together_refused files now table (n ∷ names) first rest bytes given texts answer some same is in_table in_sources h =
    uncosted_of_files files now table (n ∷ names) bytes given texts same is in_table in_sources answer h

-- no file is named where the text of a table is refused
pub unnamed_table : {A : Type 0} (old new : List (List ℕ)) (text : List ℕ) (answer : Result A Refusal)
    → new ≡ old → IfErr answer (λ r. IsRefusedTable text r) → IfErr answer (λ r. IsOfFailed old new r)
unnamed_table old new text (Ok x) same h = tt
unnamed_table old new text (Err (Build fault)) same h = same
unnamed_table old new text (Err (Run fault)) same h = same
unnamed_table old new text (Err (Replay fault)) same h = same
unnamed_table old new text (Err (Inputs fault)) same h = same
unnamed_table old new text (Err (File name reason)) same h = absurd h
unnamed_table old new text (Err (LongTable name)) same h = absurd h
unnamed_table old new text (Err Memory) same h = same
unnamed_table old new text (Err Write) same h = same
