-- Reading items one after the other, as a loop does.
use Rattle.std.proofs.Common.{◌≡◌, ℕ, suc, ◌-◌, ◌+◌, ◌≤◌, ◌<◌, List, [], ◌∷◌, ◌++◌, Option, Some, None, Ok, Err, refl, sym, ◌∙◌, arith}
use Rattle.std.specs.Prelude.{IfSome}
use Rattle.machine_meaning.specs.ImageReading.{Fault, Read, items_at}

pub goes_on : {A : Type 0} (item : List A → List ℕ → Read A) (count i : ℕ) (before : List A) (bytes : List ℕ) (a : A) (after : List ℕ) (total : Read (List A))
    → i < count → item before bytes ≡ Ok (a, after) → items_at item (count - i) before bytes ≡ total → items_at item (count - (i + 1)) (before ++ a ∷ []) after ≡ total
unfolding items_at
goes_on item count i before bytes a after total lt h so_far =
    let k : count - i ≡ suc (count - (i + 1)) = omega arith in
    let one : items_at item (count - i) before bytes ≡ items_at item (count - (i + 1)) (before ++ a ∷ []) after = rw (k, h) refl in
    sym one ∙ so_far

pub stops : {A : Type 0} (o : Option Fault) (item : List A → List ℕ → Read A) (count i : ℕ) (before : List A) (bytes : List ℕ) (total : Read (List A))
    → i < count → IfSome o (λ f. item before bytes ≡ Err f) → items_at item (count - i) before bytes ≡ total → IfSome o (λ f. total ≡ Err f)
unfolding items_at
stops None item count i before bytes total lt h so_far = tt
stops (Some f) item count i before bytes total lt h so_far =
    let k : count - i ≡ suc (count - (i + 1)) = omega arith in
    let one : items_at item (count - i) before bytes ≡ Err f = rw (k, h) refl in
    sym so_far ∙ one

pub is_done : {A : Type 0} (item : List A → List ℕ → Read A) (count i : ℕ) (before : List A) (bytes : List ℕ) (total : Read (List A))
    → count ≤ i → items_at item (count - i) before bytes ≡ total → total ≡ Ok (before, bytes)
unfolding items_at
is_done item count i before bytes total le so_far =
    let k : count - i ≡ 0 = omega arith in
    let one : items_at item (count - i) before bytes ≡ Ok (before, bytes) = rw k refl in
    sym so_far ∙ one
