-- Views of a list of parts with one of them changed.
use Rattle.std.proofs.Common.{◌≡◌, ℕ, zero, suc, ◌+◌, ℤ, List, [], ◌∷◌, ◌++◌, map, take, drop, refl, ap, ◌∙◌, sym, arith}
use Rattle.std.specs.Prelude.{get_or, slice_get, slice_set, Option, Some, None}
use Rattle.std.proofs.Math.Seq.{map-set_same}
use Rattle.std.proofs.lemmas.List.{map-set, set_past}
use Rattle.std.proofs.lemmas.Option.{slice_get-map, slice_get_past, slice_get-get_or, none-some, same_Some}
use Rattle.engine_meaning.specs.Engine.{Asks}
use Rattle.kernel_meaning.specs.Partition.{control_at, no_control, replied}
use Rattle.regions.specs.Space.{Space}
use Rattle.library_tests.specs.Plays.{script_of, laid_of}
use Rattle.library_tests.specs.Scripts.{script_engine}
use Rattle.library_tests.specs.declared.part.Part.{Part}

-- the script of a part in its place
pub script_there : (parts : List Part) (place : ℕ) (part : Part) → slice_get parts place ≡ Some part → script_of part ≡ get_or (map script_of parts) place []
script_there [] place part e = absurd (none-some part e)
script_there (p ∷ parts) zero part e = ap script_of (sym (same_Some p part e))
script_there (p ∷ parts) (suc place) part e = script_there parts place part e

pub ruleset views = (script_there, map-set, map-set_same, set_past, slice_get-map, slice_get_past, slice_get-get_or)

-- the lengths in the first part of a memory
pub laid_first : (parts : List Space) (part : Space) → map laid_of parts ≡ (0 ∷ []) ∷ [] → slice_get parts 0 ≡ Some part → laid_of part ≡ 0 ∷ []
laid_first [] part all e = absurd (none-some part e)
laid_first (p ∷ parts) part all e = ap laid_of (sym (same_Some p part e)) ∙ ap (λ l. get_or l 0 []) all

-- ---- a reply changes no script

pub replied_same : (scripts : List (List Asks)) (xs : List (Option (List Asks))) (p : ℕ) (answer : List ℤ) → xs ≡ slice_set xs p (replied (script_engine scripts) (control_at xs p) answer)
replied_same scripts [] zero answer = refl
replied_same scripts [] (suc p) answer = refl
replied_same scripts (None ∷ xs) zero answer = refl
replied_same scripts (Some c ∷ xs) zero answer = refl
replied_same scripts (x ∷ xs) (suc p) answer = ap (λ l. x ∷ l) (replied_same scripts xs p answer)

-- ---- one more part of a list has nothing left to do

one_more_without : {C : Type 0} (xs : List (Option C)) (i : ℕ) → slice_set (map no_control (take i xs) ++ drop i xs) i None ≡ map no_control (take (i + 1) xs) ++ drop (i + 1) xs
one_more_without [] zero = refl
one_more_without {C = C} [] (suc i) =
    let at : suc (i + 1) ≡ suc i + 1 = omega arith in
    let none : List (Option C) = [] in
    ap (λ k. map no_control (take k none) ++ drop k none) at
one_more_without (x ∷ xs) zero = refl
one_more_without (x ∷ xs) (suc i) =
    let at : suc (i + 1) ≡ suc i + 1 = omega arith in
    ap (λ l. None ∷ l) (one_more_without xs i) ∙ ap (λ k. map no_control (take k (x ∷ xs)) ++ drop k (x ∷ xs)) at

pub stopped_one : {A C : Type 0} (view : A → Option C) (items : List A) (xs : List (Option C)) (i : ℕ) (y : A) → map view items ≡ map no_control (take i xs) ++ drop i xs → view y ≡ None → map view (slice_set items i y) ≡ map no_control (take (i + 1) xs) ++ drop (i + 1) xs
stopped_one view items xs i y so_far here =
    map-set view items i y ∙ ap (λ c. slice_set (map view items) i c) here ∙ ap (λ l. slice_set l i None) so_far ∙ one_more_without xs i
