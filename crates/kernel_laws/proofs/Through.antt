-- Through every history the lists of each partition keep the order of its numbers.
use Rattle.kernel_laws.proofs.Prelude.{◌≡◌, ℕ, zero, suc, Bool, true, false, List, ◌∷◌, Option, Some, None, refl, sym, subst, ◌∙◌, eqb-true, eqb-false, none-some, same_Some, ◌==◌, if◌then◌else◌, slice_get, slice_set, Discipline, ListKey, at_number, steps_member, Member, with_world, Move, Starts, BreaksDown, Arrives, Leaves, Admits, GoesOut, Advances, makes, Happening, Moves, Tells, happens, all_happen, At, Engine, May, Moved, World, nobody, ready_lines, Numbers, IsOrdered, AreOrdered}
use Rattle.std.proofs.Common.{[], ap}
use Rattle.kernel_laws.specs.Names.{HaveOwnNames}
use Rattle.kernel_laws.specs.Numbers.{places_called}
use Rattle.kernel_laws.specs.OrderLaw.{GoesOn, ReadyPlaces, TickGoes, kinds, may_spent, numbered_due}
use Rattle.kernel_laws.specs.RunLaw.{MoveGoes, MoveGoesAt, numbers_at, numbers_by, numbers_then, numbers_through, places_at, places_by, with_numbers, GoThrough}
use Rattle.kernel_meaning.specs.Partition.{due_phase, prepares, spending_phase}
use Rattle.kernel_laws.proofs.ExactTakings.{places_found}
use Rattle.kernel_laws.proofs.OfTick.{Going, tick_goes, cold_start_goes, breaks_down_goes, arrives_goes, leaves_goes, admits_goes, goes_out_goes}
use Rattle.kernel_laws.proofs.Places.{get_set_same, get_set_other}

-- ---- one partition

-- who becomes ready in a move that is no tick
abbrev apart : List ℕ → ReadyPlaces
apart ready = record { due = []; rest = ready }

module _ {C : Type 0} (d : ListKey → Discipline) (names : List (List ℕ)) where
  pub move_goes : (n : Numbers) (move : Move) (x : Member C) → IsOrdered d names n x.world.kernel → (places : ReadyPlaces) × MoveGoes d names n places move x
  move_goes n (Starts at condition) x h = let g = cold_start_goes d names n at condition x h in (apart g.0, g.1)
  move_goes n (BreaksDown at) x h = let g = breaks_down_goes d names n at x h in (apart g.0, g.1)
  move_goes n (Arrives at port message) x h = let g = arrives_goes d names n at port message x h in (apart g.0, g.1)
  move_goes n (Leaves at port) x h = let g = leaves_goes d names n at port x h in (apart g.0, g.1)
  move_goes n (Admits at port) x h = let g = admits_goes d names n at port x h in (apart g.0, g.1)
  move_goes n (GoesOut at channel message) x h = let g = goes_out_goes d names n at channel message x h in (apart g.0, g.1)
  move_goes n (Advances at) x h = tick_goes d names n x.engine at x.world h

  -- after it the lists are in order again
  pub ordered_by : (n : Numbers) (places : ReadyPlaces) (move : Move) (x : Member C) → MoveGoes d names n places move x → IsOrdered d names (numbers_by places move x n) (makes move x).world.kernel
  ordered_by n places (Starts at condition) x g = g.ordered
  ordered_by n places (BreaksDown at) x g = g.ordered
  ordered_by n places (Arrives at port message) x g = g.ordered
  ordered_by n places (Leaves at port) x g = g.ordered
  ordered_by n places (Admits at port) x g = g.ordered
  ordered_by n places (GoesOut at channel message) x g = g.ordered
  ordered_by n places (Advances at) x g = g.spent.ordered

  at_goes : (n : Numbers) (move : Move) (o : Option (Member C)) → ((x : Member C) → o ≡ Some x → IsOrdered d names n x.world.kernel) → (places : ReadyPlaces) × MoveGoesAt d names n places move o
  at_goes n move None h = (apart [], tt)
  at_goes n move (Some x) h = move_goes n move x (h x refl)

-- ---- all partitions

-- a partition that keeps its numbers has them
same_numbers : (numbers : ℕ → Numbers) (p q : ℕ) → with_numbers p (numbers p) numbers q ≡ numbers q
same_numbers numbers p q = by_test (p == q) refl
  where
    by_test : (b : Bool) → (p == q) ≡ b → (if b then numbers p else numbers q) ≡ numbers q
    by_test true e = ap numbers (eqb-true p q e)
    by_test false e = refl

module _ {C : Type 0} (d : ℕ → ListKey → Discipline) (names : ℕ → List (List ℕ)) where
  -- a partition of other numbers or another place
  abbrev IsSo : ℕ → Numbers → Member C → Type 0
  IsSo p n x = IsOrdered (d p) (names p) n x.world.kernel

  put_ordered : (numbers : ℕ → Numbers) (ms : List (Member C)) (place : ℕ) (x y : Member C) (n : Numbers) → AreOrdered d names numbers ms → slice_get ms place ≡ Some x → IsSo (suc place) n y
      → AreOrdered d names (with_numbers (suc place) n numbers) (slice_set ms place y)
  put_ordered numbers ms place x y n h there own zero z e = absurd (none-some z e)
  put_ordered numbers ms place x y n h there own (suc j) z e = by_test (suc place == suc j) refl
    where
      by_test : (b : Bool) → (suc place == suc j) ≡ b → IsSo (suc j) (if b then n else numbers (suc j)) z
      by_test true q =
          let same : suc place ≡ suc j = eqb-true (suc place) (suc j) q in
          let here : slice_get (slice_set ms place y) place ≡ Some z = subst (λ (p : ℕ). at_number (slice_set ms place y) p ≡ Some z) (sym same) e in
          let is : y ≡ z = same_Some y z (sym (get_set_same ms place x y there) ∙ here) in
          subst (λ (p : ℕ). IsSo p n z) same (subst (λ (w : Member C). IsSo (suc place) n w) is own)
      by_test false q = h (suc j) z (sym (get_set_other ms place j y (λ k. eqb-false (suc place) (suc j) q (ap suc k))) ∙ e)

  step_ordered : (numbers : ℕ → Numbers) (move : Move) (ms : List (Member C)) (place : ℕ) (o : Option (Member C)) → slice_get ms place ≡ o → AreOrdered d names numbers ms
      → (places : ReadyPlaces) → MoveGoesAt (d (suc place)) (names (suc place)) (numbers (suc place)) places move o
      → AreOrdered d names (with_numbers (suc place) (numbers_at places move o (numbers (suc place))) numbers) (steps_member (makes move) ms place o).state
  step_ordered numbers move ms place None there h places g = λ q x e. subst (λ (n : Numbers). IsSo q n x) (sym (same_numbers numbers (suc place) q)) (h q x e)
  step_ordered numbers move ms place (Some x) there h places g =
      put_ordered numbers ms place x (with_world x (makes move x).world) (numbers_by places move x (numbers (suc place))) h there
      (ordered_by (d (suc place)) (names (suc place)) (numbers (suc place)) places move x g)

  happens_ordered : (numbers : ℕ → Numbers) (move : Move) (p : ℕ) (ms : List (Member C)) → AreOrdered d names numbers ms → (places : ReadyPlaces) → MoveGoesAt (d p) (names p) (numbers p) places move (at_number ms p)
      → AreOrdered d names (with_numbers p (numbers_at places move (at_number ms p) (numbers p)) numbers) (happens (Moves p move) ms).state
  happens_ordered numbers move zero ms h places g = λ q x e. subst (λ (n : Numbers). IsSo q n x) (sym (same_numbers numbers 0 q)) (h q x e)
  happens_ordered numbers move (suc place) ms h places g = step_ordered numbers move ms place (slice_get ms place) refl h places g

  -- If all lists are in order, they are in order throughout every history, and every move continues
  -- the numbers.
  pub goes_through : (hs : List Happening) (numbers : ℕ → Numbers) (ms : List (Member C)) → AreOrdered d names numbers ms → GoThrough d names hs numbers ms
  goes_through [] numbers ms h = h
  goes_through (Tells at action ∷ hs) numbers ms h = goes_through hs numbers ms h
  goes_through (Moves p move ∷ hs) numbers ms h =
      let g = at_goes (d p) (names p) (numbers p) move (at_number ms p) (h p) in
      (h, (g.0, (g.1, goes_through hs _ _ (happens_ordered numbers move p ms h g.0 g.1))))

  -- and they are so at its end
  pub ends_ordered : (hs : List Happening) (numbers : ℕ → Numbers) (ms : List (Member C)) → GoThrough d names hs numbers ms → (later : ℕ → Numbers) × AreOrdered d names later (all_happen hs ms).state
  ends_ordered [] numbers ms h = (numbers, h)
  ends_ordered (Tells at action ∷ hs) numbers ms h = ends_ordered hs numbers ms h
  ends_ordered (Moves p move ∷ hs) numbers ms h = let rest = h.1 in let after = rest.1 in ends_ordered hs _ _ after.1

-- ---- by names of their own

module _ {C : Type 0} (d : ListKey → Discipline) (names : List (List ℕ)) (own : HaveOwnNames names) where
  -- the processes that a step calls ready are those with these names
  step_named : (may : May) (n : Numbers) (ready : List ℕ) (m : Moved C) → GoesOn d names may n ready m → ready ≡ places_called names (kinds m)
  step_named may n ready m g = places_found names own ready (ready_lines (kinds m)) g.called

  named_goes : (may : May) (n : Numbers) (m : Moved C) → Going d names may n m → GoesOn d names may n (places_called names (kinds m)) m
  named_goes may n m g = subst (λ (ready : List ℕ). GoesOn d names may n ready m) (step_named may n g.0 m g.1) g.1

  tick_named : (n : Numbers) (e : Engine C) (at : At) (w : World C) → IsOrdered d names n w.kernel
      → TickGoes d names n (record { due = places_called names (kinds (due_phase e at w)); rest = places_called names (kinds (spending_phase e at (prepares e at w).world)) }) e at w
  tick_named n e at w h =
      let t = tick_goes d names n e at w h in
      let g = t.1 in
      let due = step_named nobody n t.0.due (due_phase e at w) g.due in
      let rest = step_named (may_spent e (prepares e at w).world) (numbered_due t.0 e at w n) t.0.rest (spending_phase e at (prepares e at w).world) g.spent in
      subst (λ (ps : List ℕ). TickGoes d names n (record { due = places_called names (kinds (due_phase e at w)); rest = ps }) e at w) rest
      (subst (λ (ps : List ℕ). TickGoes d names n (record { due = ps; rest = t.0.rest }) e at w) due g)

  pub move_named : (n : Numbers) (move : Move) (x : Member C) → IsOrdered d names n x.world.kernel → MoveGoes d names n (places_by names move x) move x
  move_named n (Starts at condition) x h = named_goes nobody n (makes (Starts at condition) x) (cold_start_goes d names n at condition x h)
  move_named n (BreaksDown at) x h = named_goes nobody n (makes (BreaksDown at) x) (breaks_down_goes d names n at x h)
  move_named n (Arrives at port message) x h = named_goes nobody n (makes (Arrives at port message) x) (arrives_goes d names n at port message x h)
  move_named n (Leaves at port) x h = named_goes nobody n (makes (Leaves at port) x) (leaves_goes d names n at port x h)
  move_named n (Admits at port) x h = named_goes nobody n (makes (Admits at port) x) (admits_goes d names n at port x h)
  move_named n (GoesOut at channel message) x h = named_goes nobody n (makes (GoesOut at channel message) x) (goes_out_goes d names n at channel message x h)
  move_named n (Advances at) x h = tick_named n x.engine at x.world h

  at_named : (n : Numbers) (move : Move) (o : Option (Member C)) → ((x : Member C) → o ≡ Some x → IsOrdered d names n x.world.kernel) → MoveGoesAt d names n (places_at names move o) move o
  at_named n move None h = tt
  at_named n move (Some x) h = move_named n move x (h x refl)

module _ {C : Type 0} (d : ℕ → ListKey → Discipline) (names : ℕ → List (List ℕ)) (own : (p : ℕ) → HaveOwnNames (names p)) where
  -- each move continues the numbers
  pub goes_at : (numbers : ℕ → Numbers) (ms : List (Member C)) (p : ℕ) (move : Move) → AreOrdered d names numbers ms
      → MoveGoesAt (d p) (names p) (numbers p) (places_at (names p) move (at_number ms p)) move (at_number ms p)
  goes_at numbers ms p move h = at_named (d p) (names p) (own p) (numbers p) move (at_number ms p) (h p)

  then_ordered : (h : Happening) (numbers : ℕ → Numbers) (ms : List (Member C)) → AreOrdered d names numbers ms → AreOrdered d names (numbers_then names h ms numbers) (happens h ms).state
  then_ordered (Tells at action) numbers ms h = h
  then_ordered (Moves p move) numbers ms h = happens_ordered d names numbers move p ms h (places_at (names p) move (at_number ms p)) (goes_at numbers ms p move h)

  -- so the lists stay in the order of these
  pub ordered_through : (hs : List Happening) (numbers : ℕ → Numbers) (ms : List (Member C)) → AreOrdered d names numbers ms → AreOrdered d names (numbers_through names hs ms numbers) (all_happen hs ms).state
  ordered_through [] numbers ms h = h
  ordered_through (a ∷ hs) numbers ms h = ordered_through hs (numbers_then names a ms numbers) (happens a ms).state (then_ordered a numbers ms h)
