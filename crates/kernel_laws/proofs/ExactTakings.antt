-- The takings of a step are those that its lines and its processes give.
use Rattle.kernel_laws.proofs.Prelude.{◌≡◌, ℕ, zero, suc, Bool, true, false, List, ◌∷◌, ◌++◌, Option, Some, None, refl, sym, ◌∙◌, if◌then◌else◌, none-some, same_Some, map, option_map, slice_get, EventKind, ProcessStatus, Processes, arith, index, AreAllowed, May, nobody, called, those_ready, record_at}
use Rattle.std.proofs.Common.{[], ap, append-nil}
use Rattle.std.specs.List.{cons_option}
use Rattle.std.specs.Prelude.{bytes_eq, filter_map}
use Rattle.std.proofs.lemmas.Slice.Eq.{bytes_eq-Decides}
use Rattle.kernel_laws.specs.Names.{HaveOwnNames}
use Rattle.kernel_laws.specs.Numbers.{Taking, BecomesReady, GoesLast, BeginsToWait, become_ready, place_of_name}
use Rattle.kernel_laws.specs.OrderLaw.{beginning_to_wait, going_last, has_to_go_last}
use Rattle.kernel_laws.specs.WhoWaits.{WaitsForObject, waits_for_object}
use Rattle.kernel_laws.proofs.Primitives.{those_after}

-- who goes last, and who begins to wait
abbrev pub others_by : May → List EventKind → Processes → List Taking
others_by may lines s = going_last may.go_last lines s ++ beginning_to_wait may.begin_to_wait s

-- those that become ready, then these others
abbrev pub IsReadyThen : List Taking → List Taking → Type 0
IsReadyThen others takings = (ps : List ℕ) × (takings ≡ become_ready ps ++ others)

abbrev pub IsExact : May → List EventKind → Processes → List Taking → Type 0
IsExact may lines s takings = IsReadyThen (others_by may lines s) takings

-- ---- without others

-- only who becomes ready takes a number, if nobody may otherwise
pub only_ready : (ts : List Taking) → AreAllowed nobody ts → IsReadyThen [] ts
only_ready [] h = ([], refl)
only_ready (BecomesReady p ∷ ts) h = let rest = only_ready ts h.1 in (p ∷ rest.0, ap (λ (us : List Taking). BecomesReady p ∷ us) rest.1)
only_ready (GoesLast p ∷ ts) h = absurd (none-some p h.0)
only_ready (BeginsToWait p ∷ ts) h = absurd (none-some p h.0)

-- nobody may, if none may go last and none may begin to wait
pub none_may : (may : May) → may.go_last ≡ None → may.begin_to_wait ≡ None → (ts : List Taking) → AreAllowed may ts → AreAllowed nobody ts
none_may may none never [] h = tt
none_may may none never (BecomesReady p ∷ ts) h = (tt, none_may may none never ts h.1)
none_may may none never (GoesLast p ∷ ts) h = absurd (none-some p (sym none ∙ h.0))
none_may may none never (BeginsToWait p ∷ ts) h = absurd (none-some p (sym never ∙ h.0))

pub none_others : (may : May) (lines : List EventKind) (s : Processes) → may.go_last ≡ None → may.begin_to_wait ≡ None → [] ≡ others_by may lines s
none_others may lines s none never =
    ap (λ (o : Option ℕ). going_last o lines s ++ beginning_to_wait None s) (sym none) ∙ ap (λ (o : Option ℕ). going_last may.go_last lines s ++ beginning_to_wait o s) (sym never)

-- if there are no others
pub exact_alone : (may : May) (lines : List EventKind) (s : Processes) (ts : List Taking) → [] ≡ others_by may lines s → AreAllowed nobody ts → IsExact may lines s ts
exact_alone may lines s ts none h = let g = only_ready ts h in (g.0, g.1 ∙ ap (λ (us : List Taking). become_ready g.0 ++ us) none)

-- nobody takes a number, if no line calls anybody ready
pub none_ready : (names : List (List ℕ)) (ts : List Taking) → AreAllowed nobody ts → those_ready names ts ≡ [] → ts ≡ []
none_ready names [] h e = refl
none_ready names (BecomesReady p ∷ ts) h e = absurd (cc)
none_ready names (GoesLast p ∷ ts) h e = absurd (none-some p h.0)
none_ready names (BeginsToWait p ∷ ts) h e = absurd (none-some p h.0)

-- no record waits for an object
pub not_waiting : (o : Option ProcessStatus) → (WaitsForObject o → ⊥) → waits_for_object o ≡ false
not_waiting o h = by_test (waits_for_object o) refl
  where
    by_test : (b : Bool) → waits_for_object o ≡ b → b ≡ false
    by_test true e = absurd (h e)
    by_test false e = refl

-- ---- by names

pub place_found : (names : List (List ℕ)) → HaveOwnNames names → (p : ℕ) (name : List ℕ) → slice_get names p ≡ Some name → place_of_name names name ≡ Some p
place_found [] own p name e = absurd (none-some name e)
place_found (n ∷ ns) own zero name e = ap (λ (b : Bool). if b then Some 0 else option_map suc (place_of_name ns name)) ((bytes_eq-Decides n name).1 (same_Some n name e))
place_found (n ∷ ns) own (suc p) name e = by_test (bytes_eq n name) refl (place_found ns (λ i j x a b. later i j (own (suc i) (suc j) x a b)) p name e)
  where
    later : (i j : ℕ) → suc i ≡ suc j → i ≡ j
    later i j k = omega (arith, k)

    by_test : (b : Bool) → bytes_eq n name ≡ b → place_of_name ns name ≡ Some p → (if b then Some 0 else option_map suc (place_of_name ns name)) ≡ Some (suc p)
    by_test true t k = let same : 0 ≡ suc p = own 0 (suc p) name (ap Some ((bytes_eq-Decides n name).0 t)) e in absurd (omega (arith, same))
    by_test false t k = ap (option_map suc) k

-- the places of the processes that these lines call ready
pub places_found : (names : List (List ℕ)) → HaveOwnNames names → (ready : List ℕ) (ls : List (List ℕ)) → map (slice_get names) ready ≡ map Some ls → ready ≡ filter_map (place_of_name names) ls
places_found names own [] [] e = refl
places_found names own [] (l ∷ ls) e = absurd (cc)
places_found names own (p ∷ ps) [] e = absurd (cc)
places_found names own (p ∷ ps) (l ∷ ls) e =
    let first : slice_get names p ≡ Some l = cc in
    let rest : map (slice_get names) ps ≡ map Some ls = cc in
    ap (λ (qs : List ℕ). p ∷ qs) (places_found names own ps ls rest) ∙ ap (λ (o : Option ℕ). cons_option o (filter_map (place_of_name names) ls)) (sym (place_found names own p l first))

-- ---- no other becomes ready

module _ (names : List (List ℕ)) where
  last_unready : (o : Option ℕ) (lines : List EventKind) (s : Processes) → those_ready names (going_last o lines s) ≡ []
  last_unready None lines s = refl
  last_unready (Some p) lines s = by_test (has_to_go_last (index p) lines s)
    where
      by_test : (b : Bool) → those_ready names (if b then GoesLast p ∷ [] else []) ≡ []
      by_test true = refl
      by_test false = refl

  waiter_unready : (o : Option ℕ) (s : Processes) → those_ready names (beginning_to_wait o s) ≡ []
  waiter_unready None s = refl
  waiter_unready (Some p) s = by_test (waits_for_object (record_at s.rows (index p)))
    where
      by_test : (b : Bool) → those_ready names (if b then BeginsToWait p ∷ [] else []) ≡ []
      by_test true = refl
      by_test false = refl

  others_unready : (may : May) (lines : List EventKind) (s : Processes) → those_ready names (others_by may lines s) ≡ []
  others_unready may lines s =
      those_after names (going_last may.go_last lines s) (beginning_to_wait may.begin_to_wait s)
      ∙ (ap (λ (xs : List (Option (List ℕ))). xs ++ those_ready names (beginning_to_wait may.begin_to_wait s)) (last_unready may.go_last lines s) ∙ waiter_unready may.begin_to_wait s)

  ready_at : (ps : List ℕ) → map (slice_get names) ps ≡ those_ready names (become_ready ps)
  ready_at [] = refl
  ready_at (p ∷ ps) = ap (λ (xs : List (Option (List ℕ))). slice_get names p ∷ xs) (ready_at ps)

  -- so those that the lines call ready become ready, and nobody else
  pub called_by : (may : May) (lines : List EventKind) (s : Processes) (takings : List Taking) (h : IsExact may lines s takings) → those_ready names takings ≡ called lines → map (slice_get names) h.0 ≡ called lines
  called_by may lines s takings h told =
      ready_at h.0 ∙ (sym (append-nil (those_ready names (become_ready h.0))) ∙ (ap (λ (xs : List (Option (List ℕ))). those_ready names (become_ready h.0) ++ xs) (sym (others_unready may lines s))
      ∙ (sym (those_after names (become_ready h.0) (others_by may lines s)) ∙ (ap (those_ready names) (sym h.1) ∙ told))))
