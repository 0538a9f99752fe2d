-- The changes of one process keep the agreement of the waiting lists with the records.
use Rattle.kernel_laws.proofs.Prelude.{◌≡◌, inl, inr, ◌⊎◌, ◌<◌, ◌≤◌, ℤ, Bool, true, false, nat_eq, List, ◌∷◌, length, Option, Some, None, refl, sym, subst, ◌∙◌, arith, eqb-true, if◌then◌else◌, pos, slice_get, slice_set, ArrayVec, place_of, Ready, Waiting, Dormant, Discipline, ReturnCode, At, ListKey, Priority, ProcessIndex, Runner, Due, Entry, ProcessStatus, Wait, Place, entry, is_zero, Processes, row_of, index, numbered, is_same, is_busy, on, put_row, put_ready, wakes, waits, rests, rests_found, released, zeros_of_wait, Step, waits_at, blocks, gives, gives_found, gives_all, releases_found, releases_all, joins, Queues, record_at}
use Rattle.std.proofs.Common.{[], ap}
use Rattle.std.proofs.lemmas.Bool.{false≢true}
use Rattle.apex_types.specs.declared.codes.ReturnCode.TheVariants as code
use Rattle.apex_types.specs.declared.identity.Runner.TheVariants as runner
use Rattle.apex_types.specs.declared.limits.TheConstants.{MOST_OBJECTS}
use Rattle.apex_types.specs.declared.process.Wait.TheVariants as wait
use Rattle.kernel_meaning.specs.Processes.{leaves_queues, released_with}
use Rattle.kernel_laws.specs.WhoWaits.{AreListed, AreWaiting, Stands, WaitsForObject, WaitsIn, is_at_kind, is_at_object, is_wait_in}
use Rattle.kernel_laws.proofs.Places.{get_set_other, get_set_same}
use Rattle.kernel_laws.proofs.RecordChoice.{not_handler, not_init}
use Rattle.kernel_laws.proofs.Records.{IsFound, OfProcess, numbered_found, other_place, the_same}
use Rattle.kernel_laws.proofs.WaitingCounts.{HasLists, fewer_left, lists_joined, lists_left, other_joins, other_leaves, own_joins, own_leaves, place_in, stands_joined, times}

-- The waiting lists and the records agree, and each kind has its lists.
pub record Listed (few : Type 0) (rows : List ProcessStatus) (queues : Queues) : Type 0 where
  pub waiting : AreWaiting rows queues
  pub all : few → AreListed rows queues
  pub lists : HasLists queues

abbrev pub Hold : Type 0 → Processes → Type 0
Hold few s = Listed few s.rows s.queues

-- ---- records

-- a record that waits in no list
abbrev pub IsOut : ProcessStatus → Type 0
IsOut r = (k : ListKey) → WaitsIn k (Some r) → ⊥

-- it waits where the other one waits, and for an object only if the other one does
pub record IsLike (r x : ProcessStatus) : Type 0 where
  pub waits : (k : ListKey) → WaitsIn k (Some r) → WaitsIn k (Some x)
  pub all : is_at_object x.wait ≡ true → is_at_object r.wait ≡ true

at_object_if : (k : ListKey) (w : Wait) → is_wait_in k w ≡ true → is_at_object w ≡ true
at_object_if k (wait.Object v array) e = refl
at_object_if k _ e = absurd (false≢true e)

pub out_by_wait : (r : ProcessStatus) → is_at_object r.wait ≡ false → IsOut r
out_by_wait r e k w = false≢true (sym e ∙ at_object_if k r.wait w.1)

pub out_like : (r x : ProcessStatus) → IsOut r → is_at_object x.wait ≡ false → IsLike r x
out_like r x out e = record { waits = λ k w. absurd (out k w); all = λ a. absurd (false≢true (sym e ∙ a)) }

pub same_like : (r x : ProcessStatus) → x.state ≡ r.state → x.wait ≡ r.wait → IsLike r x
same_like r x state same = record { waits = λ k w. (state ∙ w.0, ap (is_wait_in k) same ∙ w.1); all = λ a. sym (ap is_at_object same) ∙ a }

pub waits_like : (r x : ProcessStatus) → x.state ≡ Waiting → x.wait ≡ r.wait → IsLike r x
waits_like r x state same = record { waits = λ k w. (state, ap (is_wait_in k) same ∙ w.1); all = λ a. sym (ap is_at_object same) ∙ a }

-- ---- the record of one runner is replaced

module _ (rows : List ProcessStatus) (p : Runner) (r x : ProcessStatus) (there : slice_get rows (place_of p) ≡ Some r) where
  abbrev new : List ProcessStatus
  new = slice_set rows (place_of p) x

  at_new : (P : Option ProcessStatus → Type 0) (q : ProcessIndex) → (p ≡ runner.Process q → record_at rows q ≡ Some r → P (Some x)) → (is_same p (runner.Process q) ≡ false → P (record_at rows q)) → P (record_at new q)
  at_new P q own other = by_test (is_same p (runner.Process q)) refl
    where
      by_test : (b : Bool) → is_same p (runner.Process q) ≡ b → P (record_at new q)
      by_test true e =
          let is = the_same p q e in
          let found : record_at new q ≡ Some x = subst (λ (o : Runner). slice_get new (place_of o) ≡ Some x) is (get_set_same rows (place_of p) r x there) in
          subst P (sym found) (own is (subst (λ (o : Runner). slice_get rows (place_of o) ≡ Some r) is there))
      by_test false e = subst P (sym (get_set_other rows (place_of p) (place_of (runner.Process q)) x (other_place p q e))) (other e)

  -- it stands where it stood
  pub kept : {few : Type 0} (queues : Queues) → Listed few rows queues → OfProcess p (IsLike r x) → Listed few new queues
  kept queues h like = record {
    waiting = record {
      waits = λ k q n. at_new (WaitsIn k) q (λ is was. let g = like q is in g.waits k (subst (WaitsIn k) was (h.waiting.waits k q n))) (λ e. h.waiting.waits k q n);
      alone = h.waiting.alone;
      once = h.waiting.once;
    };
    all = λ few q. at_new (λ (o : Option ProcessStatus). WaitsForObject o → (k : ListKey) × Stands queues k q) q
        (λ is was a. let g = like q is in h.all few q (subst WaitsForObject (sym was) (g.all a))) (λ e. h.all few q);
    lists = h.lists;
  }

  -- it leaves the lists
  pub left : {few : Type 0} (queues : Queues) → Listed few rows queues → OfProcess p (is_at_object x.wait ≡ false) → Listed few new (leaves_queues p queues)
  left queues h none = record {
    waiting = record {
      waits = λ k q n. at_new (WaitsIn k) q (λ is was. absurd (not_own k q is n)) (λ e. h.waiting.waits k q (stood k q n));
      alone = λ j k q n m. h.waiting.alone j k q (stood j q n) (stood k q m);
      once = λ k q. let le = fewer_left queues k p q in let one = h.waiting.once k q in omega (arith, le, one);
    };
    all = λ few q. at_new (λ (o : Option ProcessStatus). WaitsForObject o → (k : ListKey) × Stands (leaves_queues p queues) k q) q
        (λ is was a. absurd (false≢true (sym (none q is) ∙ a))) (λ e a. let g = h.all few q a in (g.0, stands g.0 q e g.1));
    lists = lists_left queues p h.lists;
  }
    where
      not_own : (k : ListKey) (q : ProcessIndex) → p ≡ runner.Process q → Stands (leaves_queues p queues) k q → ⊥
      not_own k q is n = let e = own_leaves queues k p q is in omega (arith, e, n)

      stood : (k : ListKey) (q : ProcessIndex) → Stands (leaves_queues p queues) k q → Stands queues k q
      stood k q n = let le = fewer_left queues k p q in omega (arith, le, n)

      stands : (k : ListKey) (q : ProcessIndex) → is_same p (runner.Process q) ≡ false → Stands queues k q → Stands (leaves_queues p queues) k q
      stands k q e n = let same = other_leaves queues k p q e in omega (arith, same, n)

-- it joins a list
pub joined : {few : Type 0} (rows : List ProcessStatus) (queues : Queues) (i : ProcessIndex) (r x : ProcessStatus) (k : ListKey) (d : Discipline) (v : Priority)
    → slice_get rows (place_of (runner.Process i)) ≡ Some r → Listed few rows queues → x.state ≡ Waiting → is_wait_in k x.wait ≡ true → (few → place_in k < MOST_OBJECTS)
    → Listed few (slice_set rows (place_of (runner.Process i)) x) (joins k d (entry i v) queues)
joined {few = few} rows queues i r x k d v there h state fits room = record {
  waiting = record {
    waits = λ j q n. at_new rows (runner.Process i) r x there (WaitsIn j) q (λ is was. own_waits j (as_own j q (same_process q is) n)) (λ e. h.waiting.waits j q (stood j q e n));
    alone = λ j l q n m. alone j l q n m (nat_eq i.0 q.0) refl;
    once = λ j q. once j q (nat_eq i.0 q.0) refl;
  };
  all = λ few q. at_new rows (runner.Process i) r x there (λ (o : Option ProcessStatus). WaitsForObject o → (l : ListKey) × Stands after l q) q
      (λ is was a. (k, subst (λ (z : ProcessIndex). Stands after k z) (same_process q is) (own_stands few))) (λ e a. let g = h.all few q a in (g.0, stands g.0 q e g.1));
  lists = lists_joined queues k d i v h.lists;
}
  where
    after : Queues
    after = joins k d (entry i v) queues

    same_process : (q : ProcessIndex) → runner.Process i ≡ runner.Process q → i ≡ q
    same_process q is = cc

    same_index : (q : ProcessIndex) → nat_eq i.0 q.0 ≡ true → i ≡ q
    same_index q e = ap index (eqb-true i.0 q.0 e)

    as_own : (j : ListKey) (q : ProcessIndex) → i ≡ q → Stands after j q → Stands after j i
    as_own j q same n = subst (λ (z : ProcessIndex). Stands after j z) (sym same) n

    key_of : (j : ListKey) → Stands after j i → j ≡ k
    key_of j n = by_place (own_joins queues k d i v j)
      where
        by_place : (times after j i ≡ 0) ⊎ ((j ≡ k) × (times after j i ≡ 1)) → j ≡ k
        by_place (inl none) = absurd (omega (arith, none, n))
        by_place (inr put) = put.0

    own_waits : (j : ListKey) → Stands after j i → WaitsIn j (Some x)
    own_waits j n = (state, subst (λ (l : ListKey). is_wait_in l x.wait ≡ true) (sym (key_of j n)) fits)

    own_stands : few → Stands after k i
    own_stands so = let one = stands_joined queues k d i v (h.lists k (room so)) in omega (arith, one)

    stood : (j : ListKey) (q : ProcessIndex) → nat_eq i.0 q.0 ≡ false → Stands after j q → Stands queues j q
    stood j q e n = let same = other_joins queues k d i v j q e in omega (arith, same, n)

    stands : (j : ListKey) (q : ProcessIndex) → nat_eq i.0 q.0 ≡ false → Stands queues j q → Stands after j q
    stands j q e n = let same = other_joins queues k d i v j q e in omega (arith, same, n)

    alone : (j l : ListKey) (q : ProcessIndex) → Stands after j q → Stands after l q → (b : Bool) → nat_eq i.0 q.0 ≡ b → j ≡ l
    alone j l q n m true e = let same = same_index q e in key_of j (as_own j q same n) ∙ sym (key_of l (as_own l q same m))
    alone j l q n m false e = h.waiting.alone j l q (stood j q e n) (stood l q e m)

    own_once : (j : ListKey) → times after j i ≤ 1
    own_once j = by_place (own_joins queues k d i v j)
      where
        by_place : (times after j i ≡ 0) ⊎ ((j ≡ k) × (times after j i ≡ 1)) → times after j i ≤ 1
        by_place (inl none) = omega (arith, none)
        by_place (inr put) = let one = put.1 in omega (arith, one)

    once : (j : ListKey) (q : ProcessIndex) → (b : Bool) → nat_eq i.0 q.0 ≡ b → times after j q ≤ 1
    once j q true e = subst (λ (z : ProcessIndex). times after j z ≤ 1) (same_index q e) (own_once j)
    once j q false e = let same = other_joins queues k d i v j q e in let one = h.waiting.once j q in omega (arith, same, one)

-- ---- tests

-- one of two steps, by a test
pub either : {P few : Type 0} (of : P → Processes) (b : Bool) (t u : Step P) → (b ≡ true → Hold few (of t.part)) → (b ≡ false → Hold few (of u.part)) → Hold few (of (if b then t else u).part)
either of true t u h k = h refl
either of false t u h k = k refl

-- ---- a process becomes ready, waits, or is dormant

module _ {few : Type 0} (s : Processes) (h : Hold few s) where
  -- one that waits in no list
  pub wakes_holds : (p : Runner) (r x : ProcessStatus) → row_of s p ≡ Some r → OfProcess p (IsOut r) → Hold few (wakes s p x).part
  wakes_holds p r x there out =
      either (λ t. t) x.suspended _ _
      (λ e. kept s.rows p r (record x { wait = wait.Nothing; due = None }) there s.queues h (λ q is. out_like r (record x { wait = wait.Nothing; due = None }) (out q is) refl))
      (λ e. kept s.rows p r (record x { state = Ready; wait = wait.Nothing; due = None }) there s.queues h (λ q is. out_like r (record x { state = Ready; wait = wait.Nothing; due = None }) (out q is) refl))

  pub waits_holds : (p : Runner) (r x : ProcessStatus) (reason : Wait) (due : Option Due) → row_of s p ≡ Some r → OfProcess p (IsLike r (record x { state = Waiting; wait = reason; due = due }))
      → Hold few (waits s p x reason due).part
  waits_holds p r x reason due there like = kept s.rows p r (record x { state = Waiting; wait = reason; due = due }) there s.queues h like

  pub row_holds : (p : Runner) (r x : ProcessStatus) → row_of s p ≡ Some r → OfProcess p (IsLike r x) → Hold few (put_row s p x)
  row_holds p r x there like = kept s.rows p r x there s.queues h like

  pub ready_holds : (p : Runner) (r x : ProcessStatus) → row_of s p ≡ Some r → OfProcess p (IsLike r x) → Hold few (put_ready s p x)
  ready_holds p r x there like = kept s.rows p r x there s.queues h like

  pub rests_holds : (p : Runner) (r : ProcessStatus) → row_of s p ≡ Some r → Hold few (rests s p r).part
  rests_holds p r there = left s.rows p r (record r { state = Dormant; suspended = false; wait = wait.Nothing; due = None; deadline = None }) there s.queues h (λ q is. refl)

  pub rests_found_holds : (p : Runner) → Hold few (rests_found s p (row_of s p)).part
  rests_found_holds p = by_row (row_of s p) refl
    where
      by_row : (o : Option ProcessStatus) → row_of s p ≡ o → Hold few (rests_found s p o).part
      by_row None e = h
      by_row (Some r) e = rests_holds p r e

  -- ---- the end of a wait

  pub released_with_holds : (p : Runner) (r x : ProcessStatus) (c : ReturnCode) (outputs : List ℤ) → row_of s p ≡ Some r → Hold few (released_with s p x c outputs).part
  released_with_holds p r x c outputs there =
      either (λ t. t) x.suspended _ _
      (λ e. left s.rows p r (record x { wait = wait.Nothing; due = None }) there s.queues h (λ q is. refl))
      (λ e. left s.rows p r (record x { state = Ready; wait = wait.Nothing; due = None }) there s.queues h (λ q is. refl))

  pub released_holds : (p : Runner) (r x : ProcessStatus) (c : ReturnCode) → row_of s p ≡ Some r → Hold few (released s p x c).part
  released_holds p r x c there = released_with_holds p r x c (zeros_of_wait x.wait) there

  pub gives_holds : (p : Runner) (r : ProcessStatus) (m : ArrayVec ℤ) → row_of s p ≡ Some r → Hold few (gives s p r m).part
  gives_holds p r m there = released_with_holds p r r code.NoError (pos (length m.items) ∷ []) there

  pub on_holds : (o : Option (Runner × ProcessStatus)) (step : Runner → ProcessStatus → Step Processes) → IsFound s o
      → ((q : Runner) (r : ProcessStatus) → o ≡ Some (q, r) → row_of s q ≡ Some r → Hold few (step q r).part) → Hold few (on o s step).part
  on_holds None step found k = h
  on_holds (Some f) step found k = k f.0 f.1 refl (found f refl)

  -- ---- a caller that has to wait

  pub blocks_holds : (at : At) (p : Runner) (limit : ℤ) (w : Place) (m : ArrayVec ℤ) → is_at_kind w.list w.service ≡ true → (few → place_in w.list < MOST_OBJECTS) → Hold few (blocks at s p limit w m).part
  blocks_holds at p limit w m fits room = either (λ t. t) (is_zero limit) _ _ (λ e. h) (λ e. either (λ t. t) (is_busy s p) _ _ (λ b. h) (λ b. found p (row_of s p) refl))
    where
      found : (p : Runner) (o : Option ProcessStatus) → row_of s p ≡ o → Hold few (waits_at at s p limit w m o).part
      found p None e = h
      found runner.Init (Some r) e = waits_holds runner.Init r r _ _ e (λ q is. absurd (not_init q is))
      found runner.Handler (Some r) e = waits_holds runner.Handler r r _ _ e (λ q is. absurd (not_handler q is))
      found (runner.Process q) (Some r) e = joined s.rows s.queues q r _ w.list w.discipline r.current_priority e h refl fits room

-- ---- the processes released together

pub all_released_hold : {few : Type 0} (es : List Entry) (s : Processes) → Hold few s → Hold few (releases_all es s).part
all_released_hold [] s h = h
all_released_hold {few = few} (e ∷ es) s h = all_released_hold es _ (one (numbered e.process (row_of s (runner.Process e.process))) (numbered_found s e.process))
  where
    one : (o : Option (Runner × ProcessStatus)) → IsFound s o → Hold few (releases_found s o).part
    one None found = h
    one (Some f) found = released_holds s h f.0 f.1 f.1 code.NoError (found f refl)

pub all_given_hold : {few : Type 0} (es : List Entry) (m : ArrayVec ℤ) (s : Processes) → Hold few s → Hold few (gives_all es m s).part
all_given_hold [] m s h = h
all_given_hold {few = few} (e ∷ es) m s h = all_given_hold es m _ (one (numbered e.process (row_of s (runner.Process e.process))) (numbered_found s e.process))
  where
    one : (o : Option (Runner × ProcessStatus)) → IsFound s o → Hold few (gives_found s o m).part
    one None found = h
    one (Some f) found = gives_holds s h f.0 f.1 m (found f refl)

-- ---- a process that waits for no object

either_idle : (q : ProcessIndex) (b : Bool) (t u : Step Processes) → (WaitsForObject (record_at t.part.rows q) → ⊥) → (WaitsForObject (record_at u.part.rows q) → ⊥)
    → WaitsForObject (record_at (if b then t else u).part.rows q) → ⊥
either_idle q true t u j k = j
either_idle q false t u j k = k

-- the end of a wait lets nobody wait who did not
pub released_idle : (s : Processes) (q : ProcessIndex) → (WaitsForObject (record_at s.rows q) → ⊥) → (p : Runner) (r : ProcessStatus) (c : ReturnCode) (outputs : List ℤ) → row_of s p ≡ Some r
    → WaitsForObject (record_at (released_with s p r c outputs).part.rows q) → ⊥
released_idle s q idle p r c outputs there =
    either_idle q r.suspended _ _ (gone (record r { wait = wait.Nothing; due = None }) refl) (gone (record r { state = Ready; wait = wait.Nothing; due = None }) refl)
  where
    gone : (y : ProcessStatus) → is_at_object y.wait ≡ false → WaitsForObject (record_at (slice_set s.rows (place_of p) y) q) → ⊥
    gone y none a = at_new s.rows p r y there (λ (o : Option ProcessStatus). WaitsForObject o → ⊥) q (λ is was k. false≢true (sym none ∙ k)) (λ e. idle) a
