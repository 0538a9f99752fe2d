-- A process that leaves a list, which contains it at most once.
use Rattle.links.proofs.Prelude.{◌≡◌, ℕ, suc, ◌+◌, ◌<◌, ◌≤◌, true, List, [], ◌∷◌, ◌++◌, length, take, drop, get_or, map, ap, ◌∙◌, refl, sym, arith, remove, slice_index_or, if◌then◌else◌, nat_tests, get_or-map, take-append-drop, get_or_from_slice_get, slice_get_read, drop-cons, ArrayVec, Entry, without, list_in, times_listed, entries_of, once_at, IsHomed, ListId}
use Rattle.std.specs.Prelude.{Option, Some, None, nat_eq}
use Rattle.links.proofs.Levels.{times_append, without_absent}

pub same-process : (es found : List Entry) (place p : ℕ) (e d : Entry) → place < length es → found ≡ es → e ≡ get_or es place e → (get_or found place d).process.0 ≡ p → e.process.0 ≡ p
same-process es found place p e d lt is at same =
    let this : get_or es place d ≡ e = get_or_from_slice_get es place e d (slice_get_read es (length es) place e refl lt at) in
    let there : get_or found place d ≡ e = rw is this in
    sym (ap (λ (x : Entry). x.process.0) there) ∙ same

-- the place of p is found
pub leaves-at : (p place : ℕ) (e : Entry) (es : List Entry) → place < length es → e ≡ get_or es place e → e.process.0 ≡ p → times_listed p es ≤ 1 → without p es ≡ take place es ++ without p (drop place es) → remove es place ≡ without p es
leaves-at p place e es lt is same once before =
    let test : nat_eq p e.process.0 ≡ true = grind (arith, nat_tests) in
    let one : times_listed p (e ∷ drop (suc place) es) ≡ 1 + times_listed p (drop (suc place) es) = ap (λ b. (if b then 1 else 0) + times_listed p (drop (suc place) es)) test in
    let rest : drop place es ≡ e ∷ drop (suc place) es = drop-cons es place e lt ∙ ap (λ (x : Entry). x ∷ drop (suc place) es) (sym is) in
    let whole : es ≡ take place es ++ e ∷ drop (suc place) es = sym (rw rest at (take-append-drop place es)) in
    let count : times_listed p es ≡ times_listed p (take place es) + times_listed p (e ∷ drop (suc place) es) = ap (times_listed p) whole ∙ times_append p (take place es) (e ∷ drop (suc place) es) in
    let gone : without p (e ∷ drop (suc place) es) ≡ drop (suc place) es = rw test (without_absent p (drop (suc place) es) (omega arith)) in
    sym (before ∙ ap (λ (l : List Entry). take place es ++ l) (ap (without p) rest ∙ gone))

-- a list of the code
pub once-in : (lists : List (ArrayVec Entry)) (place number p : ℕ) (entries : ArrayVec Entry) → place ≡ number → place < length lists → entries ≡ get_or lists place entries → times_listed p (list_in (map entries_of lists) number) ≤ 1 → times_listed p entries.items ≤ 1
once-in lists place number p entries same lt is once =
    let at : list_in (map entries_of lists) place ≡ entries.items = get_or-map entries_of lists place entries [] lt ∙ ap entries_of (sym is) in
    rw (← at, same) once

once-or-none : (home : Option ListId) (number : ℕ) → once_at home number ≤ 1
once-or-none None number = omega arith
once-or-none (Some home) number = grind (arith, nat_tests)

-- a list in which a process is at home
pub once-at-home : (p number : ℕ) (lists : List (List Entry)) (homes : List (Option ListId)) → IsHomed lists homes → times_listed p (list_in lists number) ≤ 1
once-at-home p number lists homes homed = omega (arith, homed p number, once-or-none (slice_index_or homes p None) number)
