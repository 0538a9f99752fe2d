-- The messages that the processes which wait at the ports of a partition have handed in; the
-- changes of one process keep them.
use Rattle.isolation.proofs.Prelude.{◌≡◌, ◌≢◌, ℕ, zero, suc, ◌+◌, ◌<◌, ◌≤◌, ℤ, Bool, true, false, cond, List, ◌∷◌, ◌++◌, length, map, Option, Some, None, sym, arith, filter, if◌then◌else◌, pos, slice_get, slice_set, nat_lt, AllByRecursion, eqb-false, length-set, ArrayVec, place_of, Ready, ReturnCode, At, ProcessIndex, Runner, Due, Entry, ProcessStatus, Wait, Waiting, PortRow, is_zero, Processes, row_of, numbered, is_busy, no_longer_waits, wakes, rests_found, Step, message, blocks}
use Rattle.std.proofs.Common.{not, [], refl, subst}
use Rattle.std.specs.Prelude.{slice_index_or}
use Rattle.std.proofs.lemmas.List.{get_or-set_same, get_or-set_other}
use Rattle.apex_types.specs.declared.codes.Discipline.{Discipline}
use Rattle.apex_types.specs.declared.codes.Discipline.TheVariants as discipline
use Rattle.apex_types.specs.declared.codes.ProcessState.TheVariants.{Dormant, Waiting as IsWaiting}
use Rattle.apex_types.specs.declared.codes.ReturnCode.TheVariants as code
use Rattle.apex_types.specs.declared.identity.ListKey.{ListKey}
use Rattle.apex_types.specs.declared.identity.ListKey.TheVariants as key
use Rattle.apex_types.specs.declared.identity.Runner.TheVariants as runner
use Rattle.apex_types.specs.declared.process.Lock.{Lock}
use Rattle.apex_types.specs.declared.process.Wait.TheVariants as wait
use Rattle.apex_types.specs.declared.row.PortDirection.TheVariants as direction
use Rattle.kernel_meaning.specs.Queues.{entry, is_entry_of, without, behind_equals}
use Rattle.kernel_meaning.specs.Processes.{on, put_row, put_ready, put_unready, put_dormant, leaves, goes_last, not_running, without_holder, waits, rests, released, released_with, zeros_of_wait}
use Rattle.kernel_meaning.specs.Queues.{joined, joins, list_in, no_entries, without_in_all}
use Rattle.kernel_meaning.specs.Sharing.{enters, waits_at, gives_all, gives_found, releases_all, releases_found}
use Rattle.isolation.proofs.Holding.{HasLength}

-- ---- the invariant of the processes

-- each entry of each list; the lists are numbered from a number on
abbrev pub AllIn : (ℕ → Entry → Type 0) → ℕ → List (List Entry) → Type 0
AllIn P n [] = Unit {0}
AllIn P n (q ∷ qs) = AllByRecursion (P n) q × AllIn P (n + 1) qs

-- The condition of a port on the message of a process that waits at it: at a source port, a length
-- that its row allows.
abbrev pub Asks : List PortRow → ℕ → ArrayVec ℤ → Type 0
Asks rows place m = (x : PortRow) → slice_get rows place ≡ Some x → x.direction ≡ direction.Source → HasLength x.words m.items

-- the condition of a waiting list; an object has none
abbrev pub AsksIn : List PortRow → ListKey → ArrayVec ℤ → Type 0
AsksIn rows (key.Semaphore place) m = Unit {0}
AsksIn rows (key.Event place) m = Unit {0}
AsksIn rows (key.Buffer place) m = Unit {0}
AsksIn rows (key.Blackboard place) m = Unit {0}
AsksIn rows (key.Port place) m = Asks rows place m

-- the condition on an entry at a port, by the messages that the processes have handed in
abbrev pub HasHanded : List PortRow → List (ArrayVec ℤ) → ℕ → Entry → Type 0
HasHanded rows handed place e = Asks rows place (slice_index_or handed e.process.0 (message []))

-- All processes that wait at ports have handed in messages as their port requires, and there is a
-- place for what each process hands in.
pub record IsSoundProcesses (rows : List PortRow) (s : Processes) : Type 0 where
  pub handed : AllIn (HasHanded rows s.handed) 0 s.queues.ports
  pub placed : length s.rows ≤ length s.handed + 2

-- ---- lists of lists
-- a list of some of them
filter_all : (P : Entry → Type 0) (test : Entry → Bool) (xs : List Entry) → AllByRecursion P xs → AllByRecursion P (filter test xs)
filter_all P test [] h = tt
filter_all P test (x ∷ xs) h = either (test x) (filter_all P test xs h.1)
  where
    either : (b : Bool) → AllByRecursion P (filter test xs) → AllByRecursion P (cond b (x ∷ filter test xs) (filter test xs))
    either true k = (h.0, k)
    either false k = k

-- the remaining entries are of others
others_all : (P : Entry → Type 0) (p : ℕ) (xs : List Entry) → AllByRecursion P xs → AllByRecursion (λ e. P e × (p ≢ e.process.0)) (without p xs)
others_all P p [] h = tt
others_all P p (x ∷ xs) h = either (is_entry_of p x) refl (others_all P p xs h.1)
  where
    either : (b : Bool) → is_entry_of p x ≡ b → AllByRecursion (λ e. P e × (p ≢ e.process.0)) (without p xs) → AllByRecursion (λ e. P e × (p ≢ e.process.0)) (cond (not b) (x ∷ without p xs) (without p xs))
    either true e k = k
    either false e k = ((h.0, eqb-false p x.process.0 e), k)

-- a consequence for each entry
each_all : (P Q : Entry → Type 0) → ((e : Entry) → P e → Q e) → (xs : List Entry) → AllByRecursion P xs → AllByRecursion Q xs
each_all P Q f [] h = tt
each_all P Q f (x ∷ xs) h = (f x h.0, each_all P Q f xs h.1)

-- each list is changed
mapped_in : (P Q : ℕ → Entry → Type 0) (change : List Entry → List Entry) → ((n : ℕ) (q : List Entry) → AllByRecursion (P n) q → AllByRecursion (Q n) (change q)) → (n : ℕ) (qs : List (List Entry)) → AllIn P n qs → AllIn Q n (map change qs)
mapped_in P Q change f n [] h = tt
mapped_in P Q change f n (q ∷ qs) h = (f n q h.0, mapped_in P Q change f (n + 1) qs h.1)

-- lists without entries
pub emptied_in : (P : ℕ → Entry → Type 0) (n : ℕ) (qs : List (List Entry)) → AllIn P n (map no_entries qs)
emptied_in P n [] = tt
emptied_in P n (q ∷ qs) = (tt, emptied_in P (n + 1) qs)

plain : (n : ℕ) → n ≡ n + 0
plain n = omega arith

turned : (n k : ℕ) → n + 1 + k ≡ n + suc k
turned n k = omega arith

first : (n : ℕ) → 0 + n ≡ n
first n = omega arith

-- the list at a place, for lists numbered from n on
all_at : (P : ℕ → Entry → Type 0) (n : ℕ) (qs : List (List Entry)) (k : ℕ) → AllIn P n qs → AllByRecursion (P (n + k)) (list_in qs k)
all_at P n [] k h = tt
all_at P n (q ∷ qs) zero h = subst (λ (m : ℕ). AllByRecursion (P m) q) (plain n) h.0
all_at P n (q ∷ qs) (suc k) h = subst (λ (m : ℕ). AllByRecursion (P m) (list_in qs k)) (turned n k) (all_at P (n + 1) qs k h.1)

-- the list at a place
pub at_place : (P : ℕ → Entry → Type 0) (qs : List (List Entry)) (k : ℕ) → AllIn P 0 qs → AllByRecursion (P k) (list_in qs k)
at_place P qs k h = subst (λ (m : ℕ). AllByRecursion (P m) (list_in qs k)) (first k) (all_at P 0 qs k h)

-- another list at a place
all_put : (P : ℕ → Entry → Type 0) (n : ℕ) (qs : List (List Entry)) (k : ℕ) (q : List Entry) → AllIn P n qs → AllByRecursion (P (n + k)) q → AllIn P n (slice_set qs k q)
all_put P n [] k q h g = tt
all_put P n (x ∷ qs) zero q h g = (subst (λ (m : ℕ). AllByRecursion (P m) q) (sym (plain n)) g, h.1)
all_put P n (x ∷ qs) (suc k) q h g = (h.0, all_put P (n + 1) qs k q h.1 (subst (λ (m : ℕ). AllByRecursion (P m) q) (sym (turned n k)) g))

-- one more at the end, after its equals, and by a discipline
append_all : (P : Entry → Type 0) (e : Entry) (xs : List Entry) → P e → AllByRecursion P xs → AllByRecursion P (xs ++ e ∷ [])
append_all P e [] g h = (g, tt)
append_all P e (x ∷ xs) g h = (h.0, append_all P e xs g h.1)

behind_all : (P : Entry → Type 0) (e : Entry) (xs : List Entry) → P e → AllByRecursion P xs → AllByRecursion P (behind_equals e xs)
behind_all P e [] g h = (g, tt)
behind_all P e (x ∷ xs) g h = either (nat_lt x.priority.0 e.priority.0) (behind_all P e xs g h.1)
  where
    either : (b : Bool) → AllByRecursion P (behind_equals e xs) → AllByRecursion P (if b then e ∷ x ∷ xs else x ∷ behind_equals e xs)
    either true k = (g, h)
    either false k = (h.0, k)

joined_all : (P : Entry → Type 0) (d : Discipline) (e : Entry) (xs : List Entry) → P e → AllByRecursion P xs → AllByRecursion P (joined d e xs)
joined_all P discipline.Fifo e xs g h = append_all P e xs g h
joined_all P discipline.Priority e xs g h = behind_all P e xs g h

-- one more in the list at a place
joined_at : (P : ℕ → Entry → Type 0) (d : Discipline) (e : Entry) (qs : List (List Entry)) (k : ℕ) → AllIn P 0 qs → P k e → AllIn P 0 (slice_set qs k (joined d e (list_in qs k)))
joined_at P d e qs k h g = all_put P 0 qs k (joined d e (list_in qs k)) h (subst (λ (m : ℕ). AllByRecursion (P m) (joined d e (list_in qs k))) (sym (first k)) (joined_all (P k) d e (list_in qs k) g (at_place P qs k h)))

-- an element that is found is within the list
there_below : {A : Type 0} (xs : List A) (k : ℕ) (x : A) → slice_get xs k ≡ Some x → k < length xs
there_below [] k x e = absurd (cc)
there_below (y ∷ ys) zero x e = omega arith
there_below (y ∷ ys) (suc k) x e = let l = there_below ys k x e in omega (arith, l)

-- ---- steps
-- one of two steps keeps what both keep
pub either_so : {A : Type 0} (P : A → Type 0) (b : Bool) (s t : Step A) → P s.part → P t.part → P (if b then s else t).part
either_so P true s t h k = h
either_so P false s t h k = k

module _ (rows : List PortRow) where
  abbrev Sound : Processes → Type 0
  Sound s = IsSoundProcesses rows s

  pub either : (b : Bool) (s t : Step Processes) → Sound s.part → Sound t.part → Sound (if b then s else t).part
  either b s t h k = either_so (IsSoundProcesses rows) b s t h k

  -- another record of a process, and other lists but the waiting ones
  pub record_sound : (s : Processes) (p : Runner) (r : ProcessStatus) (ready : List Entry) (running : Option Runner) (held : Lock) → Sound s
      → Sound (record { rows = slice_set s.rows (place_of p) r; ready = ready; running = running; lock = held; queues = s.queues; handed = s.handed })
  record_sound s p r ready running held h = record { handed = h.handed; placed = subst (λ (n : ℕ). n ≤ length s.handed + 2) (sym (length-set s.rows (place_of p) r)) h.placed }

  -- another holder of the lock
  pub lock_sound : (s : Processes) (held : Lock) → Sound s → Sound (record s { lock = held })
  lock_sound s held h = record { handed = h.handed; placed = h.placed }

  pub row_sound : (s : Processes) (p : Runner) (r : ProcessStatus) → Sound s → Sound (put_row s p r)
  row_sound s p r h = record_sound s p r s.ready s.running s.lock h

  pub ready_sound : (s : Processes) (p : Runner) (r : ProcessStatus) → Sound s → Sound (put_ready s p r)
  ready_sound s p r h = record_sound s p r (goes_last p r.current_priority s.ready) s.running s.lock h

  unready_sound : (s : Processes) (p : Runner) (r : ProcessStatus) → Sound s → Sound (put_unready s p r)
  unready_sound s p r h = record_sound s p r (leaves p s.ready) (not_running p s.running) s.lock h

  -- a process waits in no list
  leaves_sound : (s : Processes) (p : Runner) → Sound s → Sound (no_longer_waits s p)
  leaves_sound s runner.Init h = h
  leaves_sound s runner.Handler h = h
  leaves_sound s (runner.Process p) h = record {
    handed = mapped_in (HasHanded rows s.handed) (HasHanded rows s.handed) (without p.0) (λ n q k. filter_all (HasHanded rows s.handed n) (λ e. not (is_entry_of p.0 e)) q k) 0 s.queues.ports h.handed;
    placed = h.placed;
  }

  dormant_sound : (s : Processes) (p : Runner) (r : ProcessStatus) → Sound s → Sound (put_dormant s p r)
  dormant_sound s p r h = record_sound (no_longer_waits s p) p r (leaves p s.ready) (not_running p s.running) (without_holder p s.lock) (leaves_sound s p h)

  -- a process becomes ready, waits, or is dormant
  pub wakes_sound : (s : Processes) (p : Runner) (r : ProcessStatus) → Sound s → Sound (wakes s p r).part
  wakes_sound s p r h =
      either r.suspended _ _ (unready_sound s p (record r { wait = wait.Nothing; due = None }) h) (ready_sound s p (record r { state = Ready; wait = wait.Nothing; due = None }) h)

  pub waits_sound : (s : Processes) (p : Runner) (r : ProcessStatus) (w : Wait) (d : Option Due) → Sound s → Sound (waits s p r w d).part
  waits_sound s p r w d h = unready_sound s p (record r { state = IsWaiting; wait = w; due = d }) h

  pub rests_sound : (s : Processes) (p : Runner) (r : ProcessStatus) → Sound s → Sound (rests s p r).part
  rests_sound s p r h = dormant_sound s p (record r { state = Dormant; suspended = false; wait = wait.Nothing; due = None; deadline = None }) h

  pub rests_found_sound : (s : Processes) (p : Runner) (o : Option ProcessStatus) → Sound s → Sound (rests_found s p o).part
  rests_found_sound s p None h = h
  rests_found_sound s p (Some r) h = rests_sound s p r h

  -- the wait of a process ends
  pub released_with_sound : (s : Processes) (p : Runner) (r : ProcessStatus) (c : ReturnCode) (outputs : List ℤ) → Sound s → Sound (released_with s p r c outputs).part
  released_with_sound s p r c outputs h = wakes_sound (no_longer_waits s p) p r (leaves_sound s p h)

  pub released_sound : (s : Processes) (p : Runner) (r : ProcessStatus) (c : ReturnCode) → Sound s → Sound (released s p r c).part
  released_sound s p r c h = released_with_sound s p r c (zeros_of_wait r.wait) h

  -- a step for the process found
  pub on_sound : (o : Option (Runner × ProcessStatus)) (s : Processes) (step : Runner → ProcessStatus → Step Processes) → Sound s → ((q : Runner) (r : ProcessStatus) → Sound (step q r).part) → Sound (on o s step).part
  on_sound None s step h k = h
  on_sound (Some f) s step h k = k f.0 f.1

  -- ---- the processes released together
  pub all_released_sound : (es : List Entry) (s : Processes) → Sound s → Sound (releases_all es s).part
  all_released_sound [] s h = h
  all_released_sound (e ∷ es) s h = all_released_sound es _ (one (numbered e.process (row_of s (runner.Process e.process))))
    where
      one : (o : Option (Runner × ProcessStatus)) → Sound (releases_found s o).part
      one None = h
      one (Some f) = released_sound s f.0 f.1 code.NoError h

  pub all_given_sound : (es : List Entry) (m : ArrayVec ℤ) (s : Processes) → Sound s → Sound (gives_all es m s).part
  all_given_sound [] m s h = h
  all_given_sound (e ∷ es) m s h = all_given_sound es m _ (one (numbered e.process (row_of s (runner.Process e.process))))
    where
      one : (o : Option (Runner × ProcessStatus)) → Sound (gives_found s o m).part
      one None = h
      one (Some f) = released_with_sound s f.0 f.1 code.NoError (pos (length m.items) ∷ []) h

  -- ---- the processes that wait
  -- a process that joins a list with a message as it requires
  enters_sound : (s : Processes) (p : ProcessIndex) (w : Waiting) (m : ArrayVec ℤ) (r : ProcessStatus) → p.0 < length s.handed → AsksIn rows w.list m → Sound s → Sound (enters s (runner.Process p) w m r)
  enters_sound s p w m r room good h = record {
    handed = put w.list good;
    placed = subst (λ (n : ℕ). length s.rows ≤ n + 2) (sym (length-set s.handed p.0 m)) h.placed;
  }
    where
      others : AllIn (HasHanded rows (slice_set s.handed p.0 m)) 0 (without_in_all p.0 s.queues).ports
      others = mapped_in (HasHanded rows s.handed) (HasHanded rows (slice_set s.handed p.0 m)) (without p.0)
          (λ n q k. each_all (λ e. HasHanded rows s.handed n e × (p.0 ≢ e.process.0)) (HasHanded rows (slice_set s.handed p.0 m) n)
          (λ e g. subst (λ (x : ArrayVec ℤ). Asks rows n x) (sym (get_or-set_other s.handed p.0 e.process.0 m (message []) (λ z. g.1 (sym z)))) g.0) (without p.0 q) (others_all (HasHanded rows s.handed n) p.0 q k)) 0 s.queues.ports h.handed

      put : (k : ListKey) → AsksIn rows k m → AllIn (HasHanded rows (slice_set s.handed p.0 m)) 0 (joins k w.discipline (entry p r.current_priority) s.queues).ports
      put (key.Semaphore place) g = others
      put (key.Event place) g = others
      put (key.Buffer place) g = others
      put (key.Blackboard place) g = others
      put (key.Port place) g =
          joined_at (HasHanded rows (slice_set s.handed p.0 m)) w.discipline (entry p r.current_priority) (without_in_all p.0 s.queues).ports place others
          (subst (λ (x : ArrayVec ℤ). Asks rows place x) (sym (get_or-set_same s.handed p.0 m (message []) room)) g)

  -- a caller that has to wait
  pub blocks_sound : (at : At) (s : Processes) (p : Runner) (limit : ℤ) (w : Waiting) (m : ArrayVec ℤ) → AsksIn rows w.list m → Sound s → Sound (blocks at s p limit w m).part
  blocks_sound at s p limit w m good h = either (is_zero limit) _ _ h (either (is_busy s p) _ _ h (found p (row_of s p) refl))
    where
      room : (q : ProcessIndex) (r : ProcessStatus) → row_of s (runner.Process q) ≡ Some r → q.0 < length s.handed
      room q r e = let l = there_below s.rows (suc (suc q.0)) r e in omega (arith, l, h.placed)

      found : (p : Runner) (o : Option ProcessStatus) → row_of s p ≡ o → Sound (waits_at at s p limit w m o).part
      found p None e = h
      found runner.Init (Some r) e = waits_sound s runner.Init r _ _ h
      found runner.Handler (Some r) e = waits_sound s runner.Handler r _ _ h
      found (runner.Process q) (Some r) e = waits_sound (enters s (runner.Process q) w m r) (runner.Process q) r _ _ (enters_sound s q w m r (room q r e) good h)
