-- Where partitions differ in name, the number of a partition denotes its name.
use Rattle.finding_laws.proofs.Prelude.{◌≡◌, ◌<◌, ℕ, ◌+◌, Bool, eqb, ◌∷◌, ◌++◌, Some, ◌∙◌, append_assoc, inr, false≢true, and_parts, cases_Bool, eq-eqb, eqb-true, or_parts, nat_list_eq_equiv, ◌==◌, if◌then◌else◌, unwrap_or, PartitionText, partition_number}
use Rattle.std.proofs.Common.{arith, true, false, List, [], length, refl, sym, ap}
use Rattle.std.proofs.Common.{inl, length-append}
use Rattle.std.proofs.lemmas.Bool.{ne_eqb}
use Rattle.std.specs.List.{list_any}
use Rattle.module_meaning.specs.Table.{has_twice}
use Rattle.module_meaning.specs.TableRules.{number_from, same}

abbrev pub is_of_name : List ℕ → PartitionText → Bool
is_of_name name p = same p.name name

abbrev pub have_same_name : PartitionText → PartitionText → Bool
have_same_name p q = same p.name q.name

-- the partitions from the one with number n on: a name has that number if and only if it is the partition's
abbrev pub AreNumbered : List PartitionText → ℕ → List PartitionText → Type 0
AreNumbered all n [] = Unit {0}
AreNumbered all n (p ∷ ps) = ((name : List ℕ) → (unwrap_or (partition_number all name) 0 == n) ≡ same name p.name) × AreNumbered all (n + 1) ps

pub same_symm : (a b : List ℕ) → same a b ≡ same b a
same_symm = nat_list_eq_equiv.symm

pub same_itself : (a : List ℕ) → same a a ≡ true
same_itself = nat_list_eq_equiv.refl

pub same_list : (a b : List ℕ) → same a b ≡ true → a ≡ b
same_list [] [] h = refl
same_list [] (y ∷ b) h = absurd (false≢true h)
same_list (x ∷ a) [] h = absurd (false≢true h)
same_list (x ∷ a) (y ∷ b) h = let parts = and_parts (eqb x y) (same a b) h in ap (λ (z : ℕ). z ∷ a) (eqb-true x y parts.0) ∙ ap (λ (zs : List ℕ). y ∷ zs) (same_list a b parts.1)

-- no number is below the number that the count starts from
not_below : (m n : ℕ) (name : List ℕ) (ps : List PartitionText) → n < m → 0 < n → (unwrap_or (number_from m (is_of_name name) ps) 0 == n) ≡ false
unfolding number_from
not_below m n name [] below there = ne_eqb 0 n (λ e. omega arith)
not_below m n name (p ∷ ps) below there = elim (same p.name name) as (λ b. (unwrap_or (if b then Some m else number_from (m + 1) (is_of_name name) ps) 0 == n) ≡ false) [
  | true ↦ ne_eqb m n (λ e. omega arith)
  | false ↦ not_below (m + 1) n name ps (omega arith) there
]

-- the partition after some others
numbered_at : (m n : ℕ) (name : List ℕ) (front : List PartitionText) (p : PartitionText) (rest : List PartitionText) → 0 < m → n ≡ m + length front → has_twice have_same_name (front ++ p ∷ rest) ≡ false
    → (unwrap_or (number_from m (is_of_name name) (front ++ p ∷ rest)) 0 == n) ≡ same name p.name
unfolding number_from has_twice
numbered_at m n name [] p rest there is apart = elim (cases_Bool (same p.name name)) [
  | inl e ↦ rw (same_symm name p.name, e) (eq-eqb m n (omega arith))
  | inr e ↦ rw (same_symm name p.name, e) (not_below (m + 1) n name rest (omega arith) (omega arith))
]
numbered_at m n name (f ∷ front) p rest there is apart =
    let parts = or_parts (list_any (have_same_name f) (front ++ p ∷ rest)) (has_twice have_same_name (front ++ p ∷ rest)) apart in
    elim (cases_Bool (same f.name name)) [
      | inl e ↦ rw e (ne_eqb m n (λ h. omega arith) ∙ sym (differs f front p rest parts.0) ∙ nat_list_eq_equiv.congr f.name name p.name e)
      | inr e ↦ rw e (numbered_at (m + 1) n name front p rest (omega arith) (omega arith) parts.1)
    ]
  where
    differs : (f : PartitionText) (front : List PartitionText) (p : PartitionText) (rest : List PartitionText) → list_any (have_same_name f) (front ++ p ∷ rest) ≡ false → same f.name p.name ≡ false
    differs f [] p rest h = (or_parts (same f.name p.name) (list_any (have_same_name f) rest) h).0
    differs f (g ∷ front) p rest h = differs f front p rest (or_parts (same f.name g.name) (list_any (have_same_name f) (front ++ p ∷ rest)) h).1

numbered_from : (n : ℕ) (front ps all : List PartitionText) → all ≡ front ++ ps → n ≡ 1 + length front → has_twice have_same_name all ≡ false → AreNumbered all n ps
numbered_from n front [] all whole is apart = tt
numbered_from n front (p ∷ ps) all whole is apart = (
  (λ name. rw whole (numbered_at 1 n name front p ps (omega arith) is (rw (← whole) apart))),
  numbered_from (n + 1) (front ++ p ∷ []) ps all (whole ∙ sym (append_assoc front (p ∷ []) ps)) (rw (length-append front (p ∷ [])) (omega arith)) apart,
)

pub are_numbered : (ps : List PartitionText) → has_twice have_same_name ps ≡ false → AreNumbered ps 1 ps
are_numbered ps apart = numbered_from 1 [] ps ps refl (omega arith) apart
