-- Refusals, and their reasons.
use Rattle.module.proofs.Prelude.{◌≡◌, inl, inr, ℕ, zero, suc, ◌+◌, false, List, ◌∷◌, ◌++◌, length, map, drop, Some, None, Result, Ok, Err, IfErr, refl, sym, ap, ◌∙◌, arith, append-nil, slice_get, list_any, none-some, same_Some, Partition, Table, program_of, IsAccepted, AreAccepted, IsTable, spelling, built_image, AreCoded, IsBuiltFrom, is_too_long, first_too_long, IsTableRefusal, IsSourceRefusal, AreSourceRefusals, IsLengthRefusal, programs_of, IsSource, AreSources, length-map, partition_of, PartitionRow, Checked, BuildFault}
use Rattle.std.proofs.Common.{[], subst}
use Rattle.std.specs.Prelude.{IsErr, IsErrAnd}
use Rattle.pal_base.specs.declared.fault.PalFault.{PalFault}
use Rattle.pal_base.specs.declared.fault.Refusal.{Refusal}
use Rattle.pal_base.specs.declared.fault.Refusal.TheVariants as refusal
use Rattle.module.proofs.Built.{none_too_long}
use Rattle.module.specs.Refusals.{IsNotAccepted, IsFirstRefused, IsRefusedWith, IsRefusal}
use Rattle.module.specs.Building.{unless_memory, refusal_of}
use Rattle.std.proofs.lemmas.List.{append_assoc}
use Rattle.module.specs.declared.fault.BuildFault.TheVariants as fault

-- ---- results

-- a refusal for one reason is a refusal for another that follows from it
pub weaker : {A : Type 0} (P Q : BuildFault → Type 0) (answer : Result A BuildFault) → ((f : BuildFault) → P f → Q f) → IfErr answer P → IfErr answer Q
weaker P Q (Ok x) h e = tt
weaker P Q (Err f) h e = h f e

-- so is a refusal that is passed on
pub passed_on : {A : Type 0} (P Q : BuildFault → Type 0) (f : BuildFault) (answer : Result A BuildFault) → IsErr answer × IsErrAnd answer (λ e. e ≡ f) → ((f : BuildFault) → P f → Q f) → P f → IfErr answer Q
passed_on P Q f (Ok x) h g p = tt
passed_on P Q f (Err e) h g p = subst Q (sym h.1) (g f p)

-- ---- one source

by_case : (row : Partition) (source : List ℕ) (r : Refusal) (f : PalFault) → f.refusal ≡ r → IsNotAccepted row source r → IsSourceRefusal row source (unless_memory r (fault.Pal row.name f))
by_case row source refusal.Text f e h = (refl, ((λ m. absurd cc), subst (IsNotAccepted row source) (sym e) h))
by_case row source refusal.Grammar f e h = (refl, ((λ m. absurd cc), subst (IsNotAccepted row source) (sym e) h))
by_case row source refusal.Name f e h = (refl, ((λ m. absurd cc), subst (IsNotAccepted row source) (sym e) h))
by_case row source refusal.Kind f e h = (refl, ((λ m. absurd cc), subst (IsNotAccepted row source) (sym e) h))
by_case row source refusal.Limit f e h = (refl, ((λ m. absurd cc), subst (IsNotAccepted row source) (sym e) h))
by_case row source refusal.Period f e h = (refl, ((λ m. absurd cc), subst (IsNotAccepted row source) (sym e) h))
by_case row source refusal.Memory f e h = tt

pub one_refused : (row : Partition) (source : List ℕ) (f : PalFault) → IsNotAccepted row source f.refusal → IsSourceRefusal row source (refusal_of row.name f)
one_refused row source f h = by_case row source f.refusal f refl h

-- ---- sources one after the other

accepted_as : (row : Partition) (source : List ℕ) (a : Checked) → IsSource row source a → IsAccepted row source (program_of a.program)
accepted_as row source a h = record { tree = h.tree; written = h.written; judged = h.judged }

pub drop_next : {X : Type 0} (xs : List X) (i : ℕ) (x : X) → slice_get xs i ≡ Some x → drop i xs ≡ x ∷ drop (i + 1) xs
drop_next [] i x e = absurd (none-some x e)
drop_next (y ∷ xs) zero x e = ap (λ z. z ∷ xs) (same_Some y x e)
drop_next (y ∷ xs) (suc i) x e =
    let at : suc i + 1 ≡ suc (i + 1) = omega arith in
    drop_next xs i x e ∙ ap (λ k. x ∷ drop k (y ∷ xs)) (sym at)

-- the meaning of the first sources, whatever those from here on are accepted as
abbrev pub AreBefore : List PartitionRow → List (List ℕ) → ℕ → List Checked → Type 0
AreBefore rows texts i given =
    (more : List Checked) → AreSources (map partition_of (drop i rows)) (drop i texts) more → AreSources (map partition_of rows) texts (given ++ more)

-- the first refusal from here on is the first of all
abbrev pub IsNoneBefore : List PartitionRow → List (List ℕ) → ℕ → Type 0
IsNoneBefore rows texts i =
    (name : List ℕ) (r : Refusal) → IsFirstRefused (map partition_of (drop i rows)) (drop i texts) name r → IsFirstRefused (map partition_of rows) texts name r

pub next_accepted : (rows : List PartitionRow) (texts : List (List ℕ)) (i : ℕ) (given next : List Checked) (row : PartitionRow) (source : List ℕ) (a : Checked)
    → drop i rows ≡ row ∷ drop (i + 1) rows → drop i texts ≡ source ∷ drop (i + 1) texts → next ≡ given ++ a ∷ [] → IsSource (partition_of row) source a
    → AreBefore rows texts i given → AreBefore rows texts (i + 1) next
next_accepted rows texts i given next row source a rows_are texts_are pushed one before more rest =
    let here : AreSources (map partition_of (drop i rows)) (drop i texts) (a ∷ more) =
    subst (λ (rs : List PartitionRow). AreSources (map partition_of rs) (drop i texts) (a ∷ more)) (sym rows_are)
    (subst (λ (ts : List (List ℕ)). AreSources (map partition_of (row ∷ drop (i + 1) rows)) ts (a ∷ more)) (sym texts_are) (one, rest)) in
    let one_by_one : given ++ a ∷ more ≡ next ++ more = sym (append_assoc given (a ∷ []) more) ∙ ap (λ l. l ++ more) (sym pushed) in
    subst (AreSources (map partition_of rows) texts) one_by_one (before (a ∷ more) here)

pub next_refused : (rows : List PartitionRow) (texts : List (List ℕ)) (i : ℕ) (row : PartitionRow) (source : List ℕ) (a : Checked)
    → drop i rows ≡ row ∷ drop (i + 1) rows → drop i texts ≡ source ∷ drop (i + 1) texts → IsSource (partition_of row) source a
    → IsNoneBefore rows texts i → IsNoneBefore rows texts (i + 1)
next_refused rows texts i row source a rows_are texts_are one before name r later =
    before name r
    (subst (λ (rs : List PartitionRow). IsFirstRefused (map partition_of rs) (drop i texts) name r) (sym rows_are)
    (subst (λ (ts : List (List ℕ)). IsFirstRefused (map partition_of (row ∷ drop (i + 1) rows)) ts name r) (sym texts_are)
    (inr (program_of a.program, accepted_as (partition_of row) source a one, later))))

pub here_refused : (rows : List PartitionRow) (texts : List (List ℕ)) (i : ℕ) (row : PartitionRow) (source : List ℕ)
    → drop i rows ≡ row ∷ drop (i + 1) rows → drop i texts ≡ source ∷ drop (i + 1) texts → IsNoneBefore rows texts i
    → (f : BuildFault) → IsSourceRefusal (partition_of row) source f → AreSourceRefusals (map partition_of rows) texts f
here_refused rows texts i row source rows_are texts_are before (fault.Table f) h = absurd h
here_refused rows texts i row source rows_are texts_are before fault.Sources h = absurd h
here_refused rows texts i row source rows_are texts_are before (fault.Pal name f) h =
    before name f.refusal
    (subst (λ (rs : List PartitionRow). IsFirstRefused (map partition_of rs) (drop i texts) name f.refusal) (sym rows_are)
    (subst (λ (ts : List (List ℕ)). IsFirstRefused (map partition_of (row ∷ drop (i + 1) rows)) ts name f.refusal) (sym texts_are) (inl h)))
here_refused rows texts i row source rows_are texts_are before (fault.Compile name f) h = absurd h
here_refused rows texts i row source rows_are texts_are before fault.Memory h = tt

-- all of them are accepted
pub all_accepted : (rows : List PartitionRow) (texts : List (List ℕ)) (i : ℕ) (given : List Checked) → i ≡ length rows → length texts ≡ length rows → AreBefore rows texts i given → AreSources (map partition_of rows) texts given
all_accepted rows texts i given at count before =
    let no_row : drop i rows ≡ [] = ap (λ k. drop k rows) at ∙ drop-all rows in
    let no_text : drop i texts ≡ [] = ap (λ k. drop k texts) (at ∙ sym count) ∙ drop-all texts in
    subst (AreSources (map partition_of rows) texts) (append-nil given)
    (before [] (subst (λ (rs : List PartitionRow). AreSources (map partition_of rs) (drop i texts) []) (sym no_row) (subst (λ (ts : List (List ℕ)). AreSources [] ts []) (sym no_text) tt)))
  where
    drop-all : {X : Type 0} (xs : List X) → drop (length xs) xs ≡ []
    drop-all [] = refl
    drop-all (x ∷ xs) = drop-all xs

pub are_accepted : (rows : List Partition) (sources : List (List ℕ)) (given : List Checked) → AreSources rows sources given → AreAccepted rows sources (programs_of given)
are_accepted [] [] [] h = tt
are_accepted [] [] (a ∷ given) h = absurd h
are_accepted [] (s ∷ sources) given h = absurd h
are_accepted (r ∷ rows) [] given h = absurd h
are_accepted (r ∷ rows) (s ∷ sources) [] h = absurd h
are_accepted (r ∷ rows) (s ∷ sources) (a ∷ given) h = (accepted_as r s a h.0, are_accepted rows sources given h.1)

-- the same rows and sources, as they are lent
pub same_sources : (other rows : List PartitionRow) (texts : List (List ℕ)) (given same : List Checked) → other ≡ rows → same ≡ given
    → AreSources (map partition_of other) texts given → AreSources (map partition_of rows) texts same
same_sources other rows texts given same e f h =
    subst (AreSources (map partition_of rows) texts) (sym f) (subst (λ (rs : List PartitionRow). AreSources (map partition_of rs) texts given) e h)

pub as_many : (rows : List Partition) (sources : List (List ℕ)) (given : List Checked) → AreSources rows sources given → length given ≡ length rows
as_many [] [] [] h = refl
as_many [] [] (a ∷ given) h = absurd h
as_many [] (s ∷ sources) given h = absurd h
as_many (r ∷ rows) [] given h = absurd h
as_many (r ∷ rows) (s ∷ sources) [] h = absurd h
as_many (r ∷ rows) (s ∷ sources) (a ∷ given) h = ap suc (as_many rows sources given h.1)

-- no program is too long if no partition is named
pub all_short : (other rows : List PartitionRow) (texts : List (List ℕ)) (seen given : List Checked) → other ≡ rows → seen ≡ given → AreSources (map partition_of rows) texts given
    → first_too_long (map partition_of other) (programs_of seen) ≡ None → list_any is_too_long (programs_of given) ≡ false
all_short other rows texts seen given e f a none =
    let count : length (programs_of given) ≡ length (map partition_of rows) = length-map given (λ (s : Checked). program_of s.program) ∙ as_many (map partition_of rows) texts given a in
    none_too_long (map partition_of rows) (programs_of given) count
    (subst (λ (rs : List PartitionRow). first_too_long (map partition_of rs) (programs_of given) ≡ None) e (subst (λ (ss : List Checked). first_too_long (map partition_of other) (programs_of ss) ≡ None) f none))

-- the bytes of accepted sources that are compiled
pub built_from : (t : Table) (sources : List (List ℕ)) (given : List Checked) (bytes : List ℕ)
    → AreSources t.partitions sources given → list_any is_too_long (programs_of given) ≡ false
    → bytes ≡ spelling (built_image t (programs_of given)) → AreCoded (programs_of given) → IsBuiltFrom t sources bytes
built_from t sources given bytes a short spelled coded =
    record {
      programs = programs_of given;
      accepted = are_accepted t.partitions sources given a;
      short = short;
      coded = coded;
      spelled = spelled;
    }

-- ---- with an accepted table

pub length_refused : (t : Table) (sources : List (List ℕ)) (given : List Checked) → AreSources t.partitions sources given → (f : BuildFault) → IsLengthRefusal t.partitions (programs_of given) f → IsRefusedWith t sources f
length_refused t sources given a (fault.Table f) h = absurd h
length_refused t sources given a fault.Sources h = absurd h
length_refused t sources given a (fault.Pal name f) h = absurd h
length_refused t sources given a (fault.Compile name f) h = (h.0, record { programs = programs_of given; accepted = are_accepted t.partitions sources given a; first = h.1 })
length_refused t sources given a fault.Memory h = absurd h

pub source_refused : (t : Table) (sources : List (List ℕ)) → length sources ≡ length t.partitions → (f : BuildFault) → AreSourceRefusals t.partitions sources f → IsRefusedWith t sources f
source_refused t sources count (fault.Table f) h = absurd h
source_refused t sources count fault.Sources h = absurd h
source_refused t sources count (fault.Pal name f) h = (count, h)
source_refused t sources count (fault.Compile name f) h = absurd h
source_refused t sources count fault.Memory h = tt

-- ---- a module

pub table_refused : (table : List ℕ) (sources : List (List ℕ)) (f : BuildFault) → IsTableRefusal table f → IsRefusal table sources f
table_refused table sources (fault.Table f) h = h
table_refused table sources fault.Sources h = absurd h
table_refused table sources (fault.Pal name f) h = absurd h
table_refused table sources (fault.Compile name f) h = absurd h
table_refused table sources fault.Memory h = tt

pub refused_with : (table : List ℕ) (sources : List (List ℕ)) (t : Table) → IsTable table t → (f : BuildFault) → IsRefusedWith t sources f → IsRefusal table sources f
refused_with table sources t is (fault.Table f) h = absurd h
refused_with table sources t is fault.Sources h = (t, is, h)
refused_with table sources t is (fault.Pal name f) h = (t, is, h)
refused_with table sources t is (fault.Compile name f) h = (t, is, h)
refused_with table sources t is fault.Memory h = tt
