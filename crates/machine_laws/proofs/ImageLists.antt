-- Lists of an image.
use Rattle.std.proofs.Common.{◌≡◌, ℕ, zero, suc, ◌^◌, ◌<◌, List, [], ◌∷◌, ◌++◌, length, Ok, refl, sym, ap, subst, ◌∙◌, append_assoc}
use Rattle.std.specs.Int.{w32}
use Rattle.std.specs.List.{flat_map}
use Rattle.std.proofs.lemmas.List.{append-nil}
use Rattle.std.proofs.lemmas.List.Concat.{flat_map-cons}
use Rattle.machine_meaning.specs.ImageSpelling.{u32, list}
use Rattle.machine_meaning.specs.ImageReading.{Read, ◌>>=◌, limited_at, items_at, list_at}
use Rattle.machine_meaning.specs.ImageLimits.{IsFrom, EachBeside}
use Rattle.machine_laws.proofs.ImageFields.{IsBytes, bind_ok, ok_is, Takes, Takes-then, Reads}
use Rattle.machine_laws.proofs.ImageNumbers.{wide32, limited_reads}

-- the result of reading n items: those before, and new ones
pub record Items {A : Type 0} (s : A → List ℕ) (P : List A → A → Type 0) (n : ℕ) (before : List A) (bytes : List ℕ) (all : List A) (rest : List ℕ) : Type 0 where
  pub new : List A
  pub all_is : all ≡ before ++ new
  pub count : length new ≡ n
  pub taken : Takes bytes (flat_map s new) rest
  pub good : EachBeside P before new

pub items_take : {A : Type 0} (item : List A → List ℕ → Read A) (s : A → List ℕ) (P : List A → A → Type 0) → ((before : List A) → Reads (item before) s (P before))
    → (n : ℕ) (before : List A) (bytes : List ℕ) (x : List A × List ℕ) → IsBytes bytes → items_at item n before bytes ≡ Ok x → Items s P n before bytes x.0 x.1
unfolding items_at
items_take item s P r zero before bytes x fits e =
    subst (λ (y : List _ × List ℕ). Items s P 0 before bytes y.0 y.1) (ok_is (before, bytes) x e)
    (record { new = []; all_is = sym (append-nil before); count = refl; taken = record { parts = refl; rest_fits = fits }; good = tt })
items_take item s P r (suc n) before bytes x fits e =
    let a = bind_ok (item before bytes) (λ y. items_at item n (before ++ y.0 ∷ []) y.1) x e in
    let p = (r before).takes bytes a.0 fits a.1 in
    let q = items_take item s P r n (before ++ a.0.0 ∷ []) a.0.1 x p.0.rest_fits a.2 in
    record {
      new = a.0.0 ∷ q.new;
      all_is = q.all_is ∙ append_assoc before (a.0.0 ∷ []) q.new;
      count = ap suc q.count;
      taken = rw flat_map-cons (Takes-then bytes (s a.0.0) a.0.1 (flat_map s q.new) x.1 p.0 q.taken);
      good = (p.1, q.good);
    }

pub items_again : {A : Type 0} (item : List A → List ℕ → Read A) (s : A → List ℕ) (P : List A → A → Type 0) → ((before : List A) → Reads (item before) s (P before))
    → (new before : List A) (rest : List ℕ) → EachBeside P before new → items_at item (length new) before (flat_map s new ++ rest) ≡ Ok (before ++ new, rest)
unfolding items_at
items_again item s P r [] before rest good = ap (λ (y : List _). Ok (y, rest)) (sym (append-nil before))
items_again item s P r (a ∷ new) before rest good =
    let regrouped : flat_map s (a ∷ new) ++ rest ≡ s a ++ (flat_map s new ++ rest) = ap (λ (y : List ℕ). y ++ rest) (flat_map-cons s a new) ∙ append_assoc (s a) (flat_map s new) rest in
    ap (items_at item (suc (length new)) before) regrouped
    ∙ ap (λ (y : Read _). y >>= λ z. items_at item (length new) (before ++ z.0 ∷ []) z.1) ((r before).again a (flat_map s new ++ rest) good.0)
    ∙ items_again item s P r new (before ++ a ∷ []) rest good.1
    ∙ ap (λ (y : List _). Ok (y, rest)) (append_assoc before (a ∷ []) new)

pub list_reads : {A : Type 0} (item : List A → List ℕ → Read A) (s : A → List ℕ) (P : List A → A → Type 0) (low high : ℕ) → high < 2 ^ 32 → ((before : List A) → Reads (item before) s (P before))
    → Reads (list_at low high item) (list s) (λ xs. IsFrom low high (length xs) × EachBeside P [] xs)
unfolding list_at list
list_reads item s P low high small r = record {
  takes = λ bytes x fits e.
      let a = bind_ok (limited_at w32 low high bytes) (λ count. items_at item count.0 [] count.1) x e in
      let p = (limited_reads w32 (2 ^ 32) wide32 low high small).takes bytes a.0 fits a.1 in
      let q = items_take item s P r a.0.0 [] a.0.1 x p.0.rest_fits a.2 in
      let both = Takes-then bytes (u32 a.0.0) a.0.1 (flat_map s q.new) x.1 p.0 q.taken in
      let new_is : q.new ≡ x.0 = sym q.all_is in
      let count_is : a.0.0 ≡ length x.0 = sym q.count ∙ ap length new_is in
      let taken : Takes bytes (u32 (length x.0) ++ flat_map s x.0) x.1 = subst (λ (n : ℕ). Takes bytes (u32 n ++ flat_map s x.0) x.1) count_is (subst (λ (y : List _). Takes bytes (u32 a.0.0 ++ flat_map s y) x.1) new_is both) in
      (taken, (subst (IsFrom low high) count_is p.1, subst (EachBeside P []) new_is q.good));
  again = λ xs rest good.
      ap (λ (y : List ℕ). limited_at w32 low high y >>= λ count. items_at item count.0 [] count.1) (append_assoc (u32 (length xs)) (flat_map s xs) rest)
      ∙ ap (λ (y : Read ℕ). y >>= λ count. items_at item count.0 [] count.1) ((limited_reads w32 (2 ^ 32) wide32 low high small).again (length xs) (flat_map s xs ++ rest) good.0)
      ∙ items_again item s P r xs [] rest good.1;
}
