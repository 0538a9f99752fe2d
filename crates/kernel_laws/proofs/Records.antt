-- The changes of one process keep the agreement of the ready list with the records.
use Rattle.kernel_laws.proofs.Prelude.{◌≡◌, ◌≢◌, ◌↔◌, inl, inr, ℕ, suc, ℤ, Bool, true, false, nat_eq, List, ◌∷◌, length, Option, Some, None, refl, sym, subst, ◌∙◌, arith, eq-eqb, eqb-true, eqb-false, none-some, same_Some, ◌==◌, is_some, if◌then◌else◌, pos, negsuc, slice_get, slice_set, ArrayVec, place_of, Ready, Waiting, Dormant, ReturnCode, At, ListKey, ProcessIndex, Runner, Due, Entry, Lock, ProcessStatus, Wait, Place, IsAmong, entry, is_zero, is_ready, is_ready_state, Processes, row_of, index, numbered, process_at, is_same, is_busy, is_held, on, put_row, put_ready, put_unready, leaves, goes_last, without, behind_equals, no_longer_waits, wakes, waits, rests, rests_found, released, zeros_of_wait, Step, enters, waits_at, blocks, gives, gives_found, gives_all, releases_found, releases_all, found_first, first_waiting, waiting, IsPlain, IsReadyAt, RecordsAgree, record_at}
use Rattle.std.proofs.Common.{[], ap}
use Rattle.std.proofs.lemmas.Bool.{false≢true}
use Rattle.std.specs.Prelude.{◌⊎◌, zero}
use Rattle.apex_types.specs.declared.codes.ReturnCode.TheVariants as code
use Rattle.apex_types.specs.declared.identity.Runner.TheVariants as runner
use Rattle.apex_types.specs.declared.process.Lock.TheVariants as lock
use Rattle.apex_types.specs.declared.process.Wait.TheVariants as wait
use Rattle.kernel_meaning.specs.Processes.{put_dormant, not_running, without_holder, released_with}
use Rattle.kernel_laws.proofs.Places.{get_set_same, get_set_other, some_set}
use Rattle.kernel_laws.proofs.ReadyEntries.{stays, left, in_behind, of_behind}

-- ---- the identity of runners

-- the property, if it is a process
abbrev pub OfProcess : Runner → Type 0 → Type 0
OfProcess p P = (q : ProcessIndex) → p ≡ runner.Process q → P

pub the_same : (p : Runner) (q : ProcessIndex) → is_same p (runner.Process q) ≡ true → p ≡ runner.Process q
the_same runner.Init q e = absurd (false≢true e)
the_same runner.Handler q e = absurd (false≢true e)
the_same (runner.Process p) q e = ap (λ (n : ℕ). runner.Process (index n)) (eqb-true p.0 q.0 e)

pub other_place : (p : Runner) (q : ProcessIndex) → is_same p (runner.Process q) ≡ false → place_of p ≢ place_of (runner.Process q)
other_place runner.Init q e k = absurd (omega (arith, k))
other_place runner.Handler q e k = absurd (omega (arith, k))
other_place (runner.Process p) q e k = eqb-false p.0 q.0 e (omega (arith, k))

-- ---- the current runner, and the holder of the lock

still_runs : (p : Runner) (o : Option Runner) (q : Runner) → not_running p o ≡ Some q → (o ≡ Some q) × (is_same p q ≡ false)
still_runs p None q e = absurd (none-some q e)
still_runs p (Some y) q e = by_test (is_same p y) refl e
  where
    by_test : (b : Bool) → is_same p y ≡ b → (if b then None else Some y) ≡ Some q → (Some y ≡ Some q) × (is_same p q ≡ false)
    by_test true t k = absurd (none-some q k)
    by_test false t k = (k, subst (λ (z : Runner). is_same p z ≡ false) (same_Some y q k) t)

holder_or : ProcessIndex → Lock → ProcessIndex
holder_or other lock.Free = other
holder_or other (lock.Held level holder) = holder

pub same_holder : (level other : ℕ) (p q : ProcessIndex) → lock.Held level p ≡ lock.Held other q → p ≡ q
unfolding holder_or
same_holder level other p q e = ap (holder_or q) e

pub not_free : (level : ℕ) (q : ProcessIndex) → lock.Free ≡ lock.Held level q → ⊥
not_free level q e = false≢true (ap is_held e)

still_holds : (p : Runner) (l : Lock) (level : ℕ) (q : ProcessIndex) → without_holder p l ≡ lock.Held level q → (l ≡ lock.Held level q) × (is_same p (runner.Process q) ≡ false)
still_holds p lock.Free level q e = absurd (not_free level q e)
still_holds p (lock.Held other holder) level q e = by_test (is_same p (runner.Process holder)) refl e
  where
    by_test : (b : Bool) → is_same p (runner.Process holder) ≡ b → (if b then lock.Free else lock.Held other holder) ≡ lock.Held level q
        → (lock.Held other holder ≡ lock.Held level q) × (is_same p (runner.Process q) ≡ false)
    by_test true t k = absurd (not_free level q k)
    by_test false t k = (k, subst (λ (z : ProcessIndex). is_same p (runner.Process z) ≡ false) (same_holder other level holder q k) t)

-- it does not hold the lock
abbrev pub IsFree : Processes → Runner → Type 0
IsFree s p = (level : ℕ) (q : ProcessIndex) → s.lock ≡ lock.Held level q → is_same p (runner.Process q) ≡ false

-- if no process holds the lock
pub nobody_holds : (s : Processes) (p : Runner) → is_held s.lock ≡ false → IsFree s p
nobody_holds s p e level q k = absurd (false≢true (sym e ∙ ap is_held k))

-- ---- records

pub not_ready_plain : (x : ProcessStatus) → is_ready_state x.state ≡ false → IsPlain x
not_ready_plain x e = record { suspended = λ k. absurd (false≢true (sym e ∙ k)); waits = λ k. absurd (false≢true (sym e ∙ k)); due = λ k. absurd (false≢true (sym e ∙ k)) }

not_ready_if_suspended : (r : ProcessStatus) → IsPlain r → r.suspended ≡ true → is_ready_state r.state ≡ false
not_ready_if_suspended r plain e = by_test (is_ready_state r.state) refl
  where
    by_test : (b : Bool) → is_ready_state r.state ≡ b → is_ready_state r.state ≡ false
    by_test true k = absurd (false≢true (sym (plain.suspended k) ∙ e))
    by_test false k = k

-- ---- tests

-- one of two steps, by a test
pub either : {P : Type 0} (of : P → Processes) (b : Bool) (t u : Step P) → (b ≡ true → RecordsAgree (of t.part)) → (b ≡ false → RecordsAgree (of u.part)) → RecordsAgree (of (if b then t else u).part)
either of true t u h k = h refl
either of false t u h k = k refl

-- ---- the record of one runner is replaced

module _ (s : Processes) (h : RecordsAgree s) (p : Runner) (r x : ProcessStatus) (there : row_of s p ≡ Some r) where
  abbrev new : List ProcessStatus
  new = slice_set s.rows (place_of p) x

  pub same_at : (q : ProcessIndex) → p ≡ runner.Process q → record_at new q ≡ Some x
  same_at q is = subst (λ (o : Runner). slice_get new (place_of o) ≡ Some x) is (get_set_same s.rows (place_of p) r x there)

  pub was_at : (q : ProcessIndex) → p ≡ runner.Process q → record_at s.rows q ≡ Some r
  was_at q is = subst (λ (o : Runner). row_of s o ≡ Some r) is there

  other_at : (q : ProcessIndex) → is_same p (runner.Process q) ≡ false → record_at new q ≡ record_at s.rows q
  other_at q e = get_set_other s.rows (place_of p) (place_of (runner.Process q)) x (other_place p q e)

  -- a ready process stays ready, if p does
  pub stays_ready : OfProcess p (is_ready_state r.state ≡ true → is_ready_state x.state ≡ true) → (q : ProcessIndex) → is_ready (record_at s.rows q) ≡ true → is_ready (record_at new q) ≡ true
  stays_ready keeps q ready = by_test (is_same p (runner.Process q)) refl
    where
      by_test : (b : Bool) → is_same p (runner.Process q) ≡ b → is_ready (record_at new q) ≡ true
      by_test true e = let is = the_same p q e in ap is_ready (same_at q is) ∙ keeps q is (sym (ap is_ready (was_at q is)) ∙ ready)
      by_test false e = ap is_ready (other_at q e) ∙ ready

  plain_at : OfProcess p (IsPlain x) → (q : ProcessIndex) (y : ProcessStatus) → record_at new q ≡ Some y → IsPlain y
  plain_at plain q y found = by_test (is_same p (runner.Process q)) refl
    where
      by_test : (b : Bool) → is_same p (runner.Process q) ≡ b → IsPlain y
      by_test true e = let is = the_same p q e in subst IsPlain (same_Some x y (sym (same_at q is) ∙ found)) (plain q is)
      by_test false e = h.plain q y (sym (other_at q e) ∙ found)

  init_at : is_some (slice_get new (place_of runner.Init)) ≡ true
  init_at = some_set s.rows (place_of p) (place_of runner.Init) x h.init

  handler_at : is_some (slice_get new (place_of runner.Handler)) ≡ true
  handler_at = some_set s.rows (place_of p) (place_of runner.Handler) x h.handler

  other_listed : (e : Entry) → is_same p (runner.Process e.process) ≡ false → (IsAmong e s.ready ↔ IsReadyAt (record_at new e.process) e.priority)
  other_listed e t = subst (λ (o : Option ProcessStatus). IsAmong e s.ready ↔ IsReadyAt o e.priority) (sym (other_at e.process t)) (h.listed e)

  -- its own record agrees with the old one
  pub plain_of : OfProcess p (IsPlain r)
  plain_of q is = h.plain q r (was_at q is)

  -- it does not hold the lock, if it is not ready
  pub free_of : OfProcess p (is_ready_state r.state ≡ false) → IsFree s p
  free_of never level q e = by_test (is_same p (runner.Process q)) refl
    where
      by_test : (b : Bool) → is_same p (runner.Process q) ≡ b → is_same p (runner.Process q) ≡ false
      by_test true t = let is = the_same p q t in absurd (false≢true (sym (never q is) ∙ (sym (ap is_ready (was_at q is)) ∙ h.holds level q e)))
      by_test false t = t

  -- ---- it is ready, after its equals

  same_ready : (i : ProcessIndex) → p ≡ runner.Process i → is_ready_state x.state ≡ true → (e : Entry)
      → (IsAmong e (behind_equals (entry i x.current_priority) (without i.0 s.ready)) ↔ IsReadyAt (record_at new e.process) e.priority)
  same_ready i own ready e = by_test (i.0 == e.process.0) refl
    where
      joined : Entry
      joined = entry i x.current_priority

      is_joined : nat_eq i.0 e.process.0 ≡ true → x.current_priority ≡ e.priority → e ≡ joined
      is_joined q same = sym (ap (λ (n : ℕ). entry (index n) x.current_priority) (eqb-true i.0 e.process.0 q) ∙ ap (entry e.process) same)

      priority_of : nat_eq i.0 e.process.0 ≡ true → (e ≡ joined) ⊎ IsAmong e (without i.0 s.ready) → x.current_priority ≡ e.priority
      priority_of q (inl same) = sym (ap (λ (y : Entry). y.priority) same)
      priority_of q (inr later) = let g = left i.0 e s.ready later in absurd (false≢true (sym g.1 ∙ q))

      other_of : nat_eq i.0 e.process.0 ≡ false → (e ≡ joined) ⊎ IsAmong e (without i.0 s.ready) → IsAmong e s.ready
      other_of q (inl same) = absurd (false≢true (sym (subst (λ (y : Entry). nat_eq i.0 y.process.0 ≡ false) same q) ∙ eq-eqb i.0 i.0 refl))
      other_of q (inr later) = let g = left i.0 e s.ready later in g.0

      by_test : (b : Bool) → nat_eq i.0 e.process.0 ≡ b → (IsAmong e (behind_equals joined (without i.0 s.ready)) ↔ IsReadyAt (record_at new e.process) e.priority)
      by_test true q =
          let found : record_at new e.process ≡ Some x = same_at e.process (own ∙ the_same (runner.Process i) e.process q) in
          subst (λ (o : Option ProcessStatus). IsAmong e (behind_equals joined (without i.0 s.ready)) ↔ IsReadyAt o e.priority) (sym found)
          ((λ a. (ready, priority_of q (of_behind joined e (without i.0 s.ready) a))), (λ k. in_behind joined e (without i.0 s.ready) (inl (is_joined q k.1))))
      by_test false q =
          let others = other_listed e (subst (λ (o : Runner). is_same o (runner.Process e.process) ≡ false) (sym own) q) in
          ((λ a. others.0 (other_of q (of_behind joined e (without i.0 s.ready) a))), (λ k. in_behind joined e (without i.0 s.ready) (inr (stays i.0 e s.ready (others.1 k) q))))

  -- ---- it is not ready

  not_among : (i : ProcessIndex) → p ≡ runner.Process i → is_ready_state x.state ≡ false → (e : Entry) → (IsAmong e (without i.0 s.ready) ↔ IsReadyAt (record_at new e.process) e.priority)
  not_among i own never e = by_test (i.0 == e.process.0) refl
    where
      by_test : (b : Bool) → nat_eq i.0 e.process.0 ≡ b → (IsAmong e (without i.0 s.ready) ↔ IsReadyAt (record_at new e.process) e.priority)
      by_test true q =
          let found : record_at new e.process ≡ Some x = same_at e.process (own ∙ the_same (runner.Process i) e.process q) in
          subst (λ (o : Option ProcessStatus). IsAmong e (without i.0 s.ready) ↔ IsReadyAt o e.priority) (sym found)
          ((λ a. let g = left i.0 e s.ready a in absurd (false≢true (sym g.1 ∙ q))), (λ k. absurd (false≢true (sym never ∙ k.0))))
      by_test false q =
          let others = other_listed e (subst (λ (o : Runner). is_same o (runner.Process e.process) ≡ false) (sym own) q) in
          ((λ a. let g = left i.0 e s.ready a in others.0 g.0), (λ k. stays i.0 e s.ready (others.1 k) q))

  -- ---- it keeps its place

  kept_listed : OfProcess p (is_ready_state x.state ≡ is_ready_state r.state) → OfProcess p (is_ready_state x.state ≡ true → x.current_priority ≡ r.current_priority)
      → (e : Entry) → (IsAmong e s.ready ↔ IsReadyAt (record_at new e.process) e.priority)
  kept_listed state priority e = by_test (is_same p (runner.Process e.process)) refl
    where
      by_test : (b : Bool) → is_same p (runner.Process e.process) ≡ b → (IsAmong e s.ready ↔ IsReadyAt (record_at new e.process) e.priority)
      by_test true t =
          let is = the_same p e.process t in
          let before = subst (λ (o : Option ProcessStatus). IsAmong e s.ready ↔ IsReadyAt o e.priority) (was_at e.process is) (h.listed e) in
          subst (λ (o : Option ProcessStatus). IsAmong e s.ready ↔ IsReadyAt o e.priority) (sym (same_at e.process is)) (
            (λ a. let g = before.0 a in let ready = state e.process is ∙ g.0 in (ready, priority e.process is ready ∙ g.1)),
            (λ k. before.1 (sym (state e.process is) ∙ k.0, sym (priority e.process is k.0) ∙ k.1)),
          )
      by_test false t = other_listed e t

  pub kept_agrees : OfProcess p (is_ready_state x.state ≡ is_ready_state r.state) → OfProcess p (is_ready_state x.state ≡ true → x.current_priority ≡ r.current_priority) → OfProcess p (IsPlain x)
      → RecordsAgree (put_row s p x)
  kept_agrees state priority plain = record {
    listed = kept_listed state priority;
    plain = plain_at plain;
    runs = λ q e. stays_ready (λ i is k. state i is ∙ k) q (h.runs q e);
    holds = λ level q e. stays_ready (λ i is k. state i is ∙ k) q (h.holds level q e);
    init = init_at;
    handler = handler_at;
  }

-- the processes in the ready list, by the runner that changes
module _ (s : Processes) (h : RecordsAgree s) where
  ready_listed : (p : Runner) (r x : ProcessStatus) → row_of s p ≡ Some r → OfProcess p (is_ready_state x.state ≡ true) → (e : Entry)
      → (IsAmong e (goes_last p x.current_priority s.ready) ↔ IsReadyAt (record_at (slice_set s.rows (place_of p) x) e.process) e.priority)
  ready_listed runner.Init r x there ready e = other_listed s h runner.Init r x there e refl
  ready_listed runner.Handler r x there ready e = other_listed s h runner.Handler r x there e refl
  ready_listed (runner.Process i) r x there ready e = same_ready s h (runner.Process i) r x there i refl (ready i refl) e

  unready_listed : (p : Runner) (r x : ProcessStatus) → row_of s p ≡ Some r → OfProcess p (is_ready_state x.state ≡ false) → (e : Entry)
      → (IsAmong e (leaves p s.ready) ↔ IsReadyAt (record_at (slice_set s.rows (place_of p) x) e.process) e.priority)
  unready_listed runner.Init r x there never e = other_listed s h runner.Init r x there e refl
  unready_listed runner.Handler r x there never e = other_listed s h runner.Handler r x there e refl
  unready_listed (runner.Process i) r x there never e = not_among s h (runner.Process i) r x there i refl (never i refl) e

  -- with this record, ready after its equals
  pub ready_agrees : (p : Runner) (r x : ProcessStatus) → row_of s p ≡ Some r → OfProcess p (is_ready_state x.state ≡ true) → OfProcess p (IsPlain x) → RecordsAgree (put_ready s p x)
  ready_agrees p r x there ready plain = record {
    listed = ready_listed p r x there ready;
    plain = plain_at s h p r x there plain;
    runs = λ q e. stays_ready s h p r x there (λ i is k. ready i is) q (h.runs q e);
    holds = λ level q e. stays_ready s h p r x there (λ i is k. ready i is) q (h.holds level q e);
    init = init_at s h p r x there;
    handler = handler_at s h p r x there;
  }

  -- with this record, neither ready nor running
  pub unready_agrees : (p : Runner) (r x : ProcessStatus) → row_of s p ≡ Some r → OfProcess p (is_ready_state x.state ≡ false) → IsFree s p → RecordsAgree (put_unready s p x)
  unready_agrees p r x there never free = record {
    listed = unready_listed p r x there never;
    plain = plain_at s h p r x there (λ q is. not_ready_plain x (never q is));
    runs = λ q e. let k = still_runs p s.running (runner.Process q) e in ap is_ready (other_at s h p r x there q k.1) ∙ h.runs q k.0;
    holds = λ level q e. ap is_ready (other_at s h p r x there q (free level q e)) ∙ h.holds level q e;
    init = init_at s h p r x there;
    handler = handler_at s h p r x there;
  }

  -- with this record, in no list and without the lock
  pub dormant_agrees : (p : Runner) (r x : ProcessStatus) → row_of s p ≡ Some r → OfProcess p (is_ready_state x.state ≡ false) → RecordsAgree (put_dormant s p x)
  dormant_agrees p r x there never = record {
    listed = unready_listed p r x there never;
    plain = plain_at s h p r x there (λ q is. not_ready_plain x (never q is));
    runs = λ q e. let k = still_runs p s.running (runner.Process q) e in ap is_ready (other_at s h p r x there q k.1) ∙ h.runs q k.0;
    holds = λ level q e. let k = still_holds p s.lock level q e in ap is_ready (other_at s h p r x there q k.1) ∙ h.holds level q k.0;
    init = init_at s h p r x there;
    handler = handler_at s h p r x there;
  }

  -- ---- a process becomes ready, waits, or is dormant

  -- with its own state; it is suspended only if it was
  pub wakes_agrees : (p : Runner) (r x : ProcessStatus) → row_of s p ≡ Some r → is_ready_state x.state ≡ is_ready_state r.state → (x.suspended ≡ true → r.suspended ≡ true) → RecordsAgree (wakes s p x).part
  wakes_agrees p r x there state suspended =
      either (λ t. t) x.suspended _ _
      (λ e. unready_agrees p r (record x { wait = wait.Nothing; due = None }) there (λ q is. state ∙ never e q is) (free_of s h p r x there (never e)))
      (λ e. ready_agrees p r (record x { state = Ready; wait = wait.Nothing; due = None }) there (λ q is. refl) (λ q is. record { suspended = λ k. e; waits = λ k. refl; due = λ k. refl }))
    where
      never : x.suspended ≡ true → OfProcess p (is_ready_state r.state ≡ false)
      never e q is = not_ready_if_suspended r (plain_of s h p r x there q is) (suspended e)

  pub waits_agrees : (p : Runner) (r x : ProcessStatus) (reason : Wait) (due : Option Due) → row_of s p ≡ Some r → IsFree s p → RecordsAgree (waits s p x reason due).part
  waits_agrees p r x reason due there free = unready_agrees p r (record x { state = Waiting; wait = reason; due = due }) there (λ q is. refl) free

  pub rests_agrees : (p : Runner) (r : ProcessStatus) → row_of s p ≡ Some r → RecordsAgree (rests s p r).part
  rests_agrees p r there = dormant_agrees p r (record r { state = Dormant; suspended = false; wait = wait.Nothing; due = None; deadline = None }) there (λ q is. refl)

  pub rests_found_agrees : (p : Runner) → RecordsAgree (rests_found s p (row_of s p)).part
  rests_found_agrees p = by_row (row_of s p) refl
    where
      by_row : (o : Option ProcessStatus) → row_of s p ≡ o → RecordsAgree (rests_found s p o).part
      by_row None e = h
      by_row (Some r) e = rests_agrees p r e

-- ---- the end of a wait

pub released_with_agrees : (s : Processes) → RecordsAgree s → (p : Runner) (r x : ProcessStatus) (c : ReturnCode) (outputs : List ℤ) → row_of s p ≡ Some r → is_ready_state x.state ≡ is_ready_state r.state
    → (x.suspended ≡ true → r.suspended ≡ true) → RecordsAgree (released_with s p x c outputs).part
released_with_agrees s h p r x c outputs there state suspended = wakes_agrees (no_longer_waits s p) h p r x there state suspended

pub released_agrees : (s : Processes) → RecordsAgree s → (p : Runner) (r x : ProcessStatus) (c : ReturnCode) → row_of s p ≡ Some r → is_ready_state x.state ≡ is_ready_state r.state
    → (x.suspended ≡ true → r.suspended ≡ true) → RecordsAgree (released s p x c).part
released_agrees s h p r x c there state suspended = released_with_agrees s h p r x c (zeros_of_wait x.wait) there state suspended

-- ---- the runners that are found

-- the record that is found is its own
abbrev pub IsFound : Processes → Option (Runner × ProcessStatus) → Type 0
IsFound s o = (f : Runner × ProcessStatus) → o ≡ Some f → row_of s f.0 ≡ Some f.1

pub numbered_found : (s : Processes) (p : ProcessIndex) → IsFound s (numbered p (row_of s (runner.Process p)))
numbered_found s p f = by_row (row_of s (runner.Process p)) refl
  where
    by_row : (o : Option ProcessStatus) → row_of s (runner.Process p) ≡ o → numbered p o ≡ Some f → row_of s f.0 ≡ Some f.1
    by_row None e g = absurd (none-some f g)
    by_row (Some r) e g = subst (λ (x : Runner × ProcessStatus). row_of s x.0 ≡ Some x.1) (same_Some (runner.Process p, r) f g) e

pub at_found : (s : Processes) (id : ℤ) → IsFound s (process_at s id)
at_found s (negsuc n) f e = absurd (none-some f e)
at_found s (pos zero) f e = absurd (none-some f e)
at_found s (pos (suc n)) f e = numbered_found s (index n) f e

first_found : (s : Processes) (es : List Entry) → IsFound s (found_first s es)
first_found s [] f e = absurd (none-some f e)
first_found s (x ∷ xs) f e = numbered_found s x.process f e

pub first_waiting_found : (s : Processes) (list : ListKey) → IsFound s (first_waiting s list)
first_waiting_found s list = first_found s (waiting s list)

pub on_agrees : (s : Processes) → RecordsAgree s → (o : Option (Runner × ProcessStatus)) (step : Runner → ProcessStatus → Step Processes) → IsFound s o
    → ((q : Runner) (r : ProcessStatus) → o ≡ Some (q, r) → row_of s q ≡ Some r → RecordsAgree (step q r).part) → RecordsAgree (on o s step).part
on_agrees s h None step found k = h
on_agrees s h (Some f) step found k = k f.0 f.1 refl (found f refl)

-- ---- the processes released together

pub all_released_agree : (es : List Entry) (s : Processes) → RecordsAgree s → RecordsAgree (releases_all es s).part
all_released_agree [] s h = h
all_released_agree (e ∷ es) s h = all_released_agree es _ (one (numbered e.process (row_of s (runner.Process e.process))) (numbered_found s e.process))
  where
    one : (o : Option (Runner × ProcessStatus)) → IsFound s o → RecordsAgree (releases_found s o).part
    one None found = h
    one (Some f) found = released_agrees s h f.0 f.1 f.1 code.NoError (found f refl) refl (λ k. k)

pub gives_agrees : (s : Processes) → RecordsAgree s → (p : Runner) (r : ProcessStatus) (m : ArrayVec ℤ) → row_of s p ≡ Some r → RecordsAgree (gives s p r m).part
gives_agrees s h p r m there = released_with_agrees s h p r r code.NoError (pos (length m.items) ∷ []) there refl (λ k. k)

pub all_given_agree : (es : List Entry) (m : ArrayVec ℤ) (s : Processes) → RecordsAgree s → RecordsAgree (gives_all es m s).part
all_given_agree [] m s h = h
all_given_agree (e ∷ es) m s h = all_given_agree es m _ (one (numbered e.process (row_of s (runner.Process e.process))) (numbered_found s e.process))
  where
    one : (o : Option (Runner × ProcessStatus)) → IsFound s o → RecordsAgree (gives_found s o m).part
    one None found = h
    one (Some f) found = gives_agrees s h f.0 f.1 m (found f refl)

-- ---- the processes that wait

pub is_free : (s : Processes) (p : Runner) → is_busy s p ≡ false → IsFree s p
is_free s runner.Init e = absurd (false≢true (sym e))
is_free s runner.Handler e = absurd (false≢true (sym e))
is_free s (runner.Process p) e = nobody_holds s (runner.Process p) e

-- a caller that has to wait
pub blocks_agrees : (at : At) (s : Processes) → RecordsAgree s → (p : Runner) (limit : ℤ) (w : Place) (m : ArrayVec ℤ) → RecordsAgree (blocks at s p limit w m).part
blocks_agrees at s h p limit w m = either (λ t. t) (is_zero limit) _ _ (λ e. h) (λ e. either (λ t. t) (is_busy s p) _ _ (λ b. h) (λ b. found p (row_of s p) refl (is_free s p b)))
  where
    found : (p : Runner) (o : Option ProcessStatus) → row_of s p ≡ o → IsFree s p → RecordsAgree (waits_at at s p limit w m o).part
    found p None e free = h
    found runner.Init (Some r) e free = waits_agrees s h runner.Init r r _ _ e free
    found runner.Handler (Some r) e free = waits_agrees s h runner.Handler r r _ _ e free
    found (runner.Process q) (Some r) e free = waits_agrees (enters s (runner.Process q) w m r) h (runner.Process q) r r _ _ e free
