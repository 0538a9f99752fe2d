-- Steps of the processes continue the numbers.
use Rattle.kernel_laws.proofs.Prelude.{Bool, List, None, Option, Some, false, refl, subst, suc, sym, true, zero, ℕ, ℤ, ◌++◌, ◌∙◌, ◌∷◌, ◌≡◌, none-some, same_Some, if◌then◌else◌, negsuc, pos, ArrayVec, place_of, Discipline, ProcessState, Ready, Running, Dormant, Waiting, ReturnCode, EventKind, Subject, At, ListKey, ProcessIndex, Runner, Action, Due, Entry, Lock, ProcessStatus, Wait, Place, Service, entry, is_zero, time_out, with_lock, Processes, index, is_busy, numbered, process_at, put_ready, put_row, put_unready, rests, row_of, wakes, waits, answers, released, zeros_of_wait, no_longer_waits, on, joins, Step, after, nothing, row, fills, first_waiting, waiting, writes, enters, waits_at, blocks, releases_found, releases_all, gives, gives_found, gives_all, found_first, AreAllowed, AreNamed, BeginsToWait, Follows, Goes, IsInOrder, itself, process_of, take_one, those_ready, called, May, only_last}
use Rattle.std.proofs.Common.{[], ap}
use Rattle.apex_types.specs.declared.event.Subject.TheVariants.{Init, Handler, Process}
use Rattle.std.proofs.lemmas.Option.{slice_get-map}
use Rattle.std.specs.Prelude.{length, map, option_map, slice_get}
use Rattle.apex_types.specs.declared.codes.ReturnCode.TheVariants as code
use Rattle.apex_types.specs.declared.event.EventKind.TheVariants as event
use Rattle.apex_types.specs.declared.identity.Runner.TheVariants as runner
use Rattle.apex_types.specs.declared.process.Wait.TheVariants as wait
use Rattle.kernel_meaning.specs.Processes.{waiting_lines, refuses, answers_wait}
use Rattle.kernel_meaning.specs.Step.{answered}
use Rattle.kernel_meaning.specs.Sharing.{array_of_wait}
use Rattle.kernel_laws.specs.Numbers.{called_ready, subjects}
use Rattle.kernel_laws.proofs.Primitives.{readied, lasted, in_order_ready, in_order_last, in_order_unready, in_order_released, in_order_enters, follows_after, told_after, allowed_after, named_at, named_set}

-- ---- lines

told_wakes : (names : List (List ℕ)) (p : Runner) (who : Subject) → slice_get (subjects names) (place_of p) ≡ Some who → those_ready names (readied p) ≡ map Some (called_ready Ready who ++ [])
told_wakes names runner.Init who e = ap (λ (s : Subject). map Some (called_ready Ready s ++ [])) (same_Some Init who e)
told_wakes names runner.Handler who e = ap (λ (s : Subject). map Some (called_ready Ready s ++ [])) (same_Some Handler who e)
told_wakes names (runner.Process p) who e = by_name (slice_get names p.0) (sym (slice_get-map Process names p.0) ∙ e)
  where
    by_name : (o : Option (List ℕ)) → option_map Process o ≡ Some who → o ∷ [] ≡ map Some (called_ready Ready who ++ [])
    by_name None k = absurd (none-some who k)
    by_name (Some name) k = ap (λ (s : Subject). map Some (called_ready Ready s ++ [])) (same_Some (Process name) who k)

told_lasted : (names : List (List ℕ)) (p : Runner) → those_ready names (lasted p) ≡ []
told_lasted names runner.Init = refl
told_lasted names runner.Handler = refl
told_lasted names (runner.Process p) = refl

allowed_readied : (may : May) (p : Runner) → AreAllowed may (readied p)
allowed_readied may runner.Init = tt
allowed_readied may runner.Handler = tt
allowed_readied may (runner.Process p) = (tt, tt)

allowed_lasted : (p : Runner) → AreAllowed (only_last (itself p)) (lasted p)
allowed_lasted runner.Init = tt
allowed_lasted runner.Handler = tt
allowed_lasted (runner.Process p) = (refl, tt)

pub waiting_told : (who : Subject) (state : ProcessState) → [] ≡ called (waiting_lines who state)
waiting_told who Dormant = refl
waiting_told who Ready = refl
waiting_told who Running = refl
waiting_told who Waiting = refl

module _ (d : ListKey → Discipline) (names : List (List ℕ)) where
  abbrev pub Named : Processes → Type 0
  Named s = AreNamed names s.rows

  -- the record names runner p
  abbrev pub IsOf : Runner → ProcessStatus → Type 0
  IsOf p r = slice_get (subjects names) (place_of p) ≡ Some r.who

  -- ---- how steps are put together

  pub nothing_goes : (may : May) (s : Processes) → Named s → Goes d names may s (nothing s)
  nothing_goes may s h = record { takings = []; follows = λ n o. o; named = h; told = refl; allowed = tt }

  pub answered_goes : (may : May) (s : Processes) (p : Runner) (who : Subject) (v : Service) (c : ReturnCode) (outputs : List ℤ) → Named s → Goes d names may s (answered s p who v c outputs)
  answered_goes may s p who v c outputs h = record { takings = []; follows = λ n o. o; named = h; told = refl; allowed = tt }

  pub either_goes : (may : May) (s : Processes) (b : Bool) (t u : Step Processes) → Goes d names may s t → Goes d names may s u → Goes d names may s (if b then t else u)
  either_goes may s true t u h k = h
  either_goes may s false t u h k = k

  pub row_goes : (may : May) (s : Processes) (refused : ReturnCode → Step Processes) (checks : List (Bool × ReturnCode)) (effect : Step Processes)
      → ((c : ReturnCode) → Goes d names may s (refused c)) → Goes d names may s effect → Goes d names may s (row refused checks effect)
  row_goes may s refused [] effect h k = k
  row_goes may s refused (check ∷ checks) effect h k = either_goes may s check.0 (refused check.1) (row refused checks effect) (h check.1) (row_goes may s refused checks effect h k)

  pub after_goes : (may : May) (s : Processes) (t u : Step Processes) → Goes d names may s t → (Named t.part → Goes d names may t.part u) → Goes d names may s (after t u)
  after_goes may s t u h k =
      let g = k h.named in
      record {
        takings = h.takings ++ g.takings;
        follows = follows_after d h.takings g.takings s t.part u.part h.follows g.follows;
        named = g.named;
        told = told_after names h.takings g.takings t.lines u.lines h.told g.told;
        allowed = allowed_after may h.takings g.takings h.allowed g.allowed;
      }

  -- without a taking before it
  pub before_goes : (may : May) (s t : Processes) (u : Step Processes) → Follows d [] s t → Goes d names may t u → Goes d names may s u
  before_goes may s t u f g = record { takings = g.takings; follows = λ n o. g.follows n (f n o); named = g.named; told = g.told; allowed = g.allowed }

  -- ---- records

  pub put_goes : (may : May) (s : Processes) (p : Runner) (x : ProcessStatus) → Named s → IsOf p x → Goes d names may s (nothing (put_row s p x))
  put_goes may s p x h e = record { takings = []; follows = λ n o. o; named = named_set names s.rows (place_of p) x h e; told = refl; allowed = tt }

  unready_goes : (may : May) (s : Processes) (p : Runner) (x : ProcessStatus) (ls : List EventKind) (asked : List Action) → Named s → IsOf p x → [] ≡ called ls
      → Goes d names may s (record { part = put_unready s p x; lines = ls; actions = asked })
  unready_goes may s p x ls asked h e told = record {
    takings = [];
    follows = λ n o. in_order_unready d n p s.ready s.queues o;
    named = named_set names s.rows (place_of p) x h e;
    told = told;
    allowed = tt;
  }

  ready_goes : (may : May) (s : Processes) (p : Runner) (x : ProcessStatus) (ls : List EventKind) (asked : List Action) → Named s → IsOf p x → those_ready names (readied p) ≡ called ls
      → Goes d names may s (record { part = put_ready s p x; lines = ls; actions = asked })
  ready_goes may s p x ls asked h e told = record {
    takings = readied p;
    follows = λ n o. in_order_ready d n p x.current_priority s.ready s.queues o;
    named = named_set names s.rows (place_of p) x h e;
    told = told;
    allowed = allowed_readied may p;
  }

  -- a process that goes last, as it may
  pub last_goes : (s : Processes) (p : Runner) (x : ProcessStatus) → Named s → IsOf p x → Goes d names (only_last (itself p)) s (nothing (put_ready s p x))
  last_goes s p x h e = record {
    takings = lasted p;
    follows = λ n o. in_order_last d n p x.current_priority s.ready s.queues o;
    named = named_set names s.rows (place_of p) x h e;
    told = told_lasted names p;
    allowed = allowed_lasted p;
  }

  pub wakes_goes : (may : May) (s : Processes) (p : Runner) (r : ProcessStatus) → Named s → IsOf p r → Goes d names may s (wakes s p r)
  wakes_goes may s p r h e =
      either_goes may s r.suspended _ _ (unready_goes may s p (record r { wait = wait.Nothing; due = None }) [] [] h e refl)
      (ready_goes may s p (record r { state = Ready; wait = wait.Nothing; due = None }) (event.State r.who Ready ∷ []) [] h e
      (told_wakes names p r.who e))

  pub waits_goes : (may : May) (s : Processes) (p : Runner) (r : ProcessStatus) (reason : Wait) (due : Option Due) → Named s → IsOf p r → Goes d names may s (waits s p r reason due)
  waits_goes may s p r reason due h e = unready_goes may s p (record r { state = Waiting; wait = reason; due = due }) (waiting_lines r.who r.state) [] h e (waiting_told r.who r.state)

  pub rests_goes : (may : May) (s : Processes) (p : Runner) (r : ProcessStatus) → Named s → IsOf p r → Goes d names may s (rests s p r)
  rests_goes may s p r h e = record {
    takings = [];
    follows = λ n o. in_order_released d n p _ s.queues (in_order_unready d n p s.ready s.queues o);
    named = named_set names s.rows (place_of p) _ h e;
    told = refl;
    allowed = tt;
  }

  -- ---- the end of a wait

  woken_goes : (may : May) (s : Processes) (p : Runner) (r : ProcessStatus) → Named s → IsOf p r → Goes d names may s (wakes (no_longer_waits s p) p r)
  woken_goes may s p r h e =
      before_goes may s (no_longer_waits s p) (wakes (no_longer_waits s p) p r) (λ n o. in_order_released d n p s.ready s.queues o) (wakes_goes may (no_longer_waits s p) p r h e)

  released_goes : (may : May) (s : Processes) (p : Runner) (r : ProcessStatus) (c : ReturnCode) (outputs : List ℤ) (w : Wait) → Named s → IsOf p r
      → Goes d names may s (after (answers_wait s p r c outputs w) (wakes (no_longer_waits s p) p r))
  released_goes may s p r c outputs wait.Nothing h e = after_goes may s (nothing s) _ (nothing_goes may s h) (λ k. woken_goes may s p r h e)
  released_goes may s p r c outputs (wait.NormalStart delay) h e = after_goes may s (nothing s) _ (nothing_goes may s h) (λ k. woken_goes may s p r h e)
  released_goes may s p r c outputs wait.FirstRelease h e = after_goes may s (nothing s) _ (nothing_goes may s h) (λ k. woken_goes may s p r h e)
  released_goes may s p r c outputs (wait.Service v) h e = after_goes may s (answered s p r.who v c outputs) _ (answered_goes may s p r.who v c outputs h) (λ k. woken_goes may s p r h e)
  released_goes may s p r c outputs (wait.Object v array) h e =
      after_goes may s (answered s p r.who v c outputs) _ (answered_goes may s p r.who v c outputs h) (λ k. woken_goes may s p r h e)

  pub release_goes : (may : May) (s : Processes) (p : Runner) (r : ProcessStatus) (c : ReturnCode) → Named s → IsOf p r → Goes d names may s (released s p r c)
  release_goes may s p r c h e = released_goes may s p r c (zeros_of_wait r.wait) r.wait h e

  pub fills_goes : (may : May) (s : Processes) (asked : List Action) → Named s → Goes d names may s (record { part = s; lines = []; actions = asked })
  fills_goes may s asked h = record { takings = []; follows = λ n o. o; named = h; told = refl; allowed = tt }

  pub gives_goes : (may : May) (s : Processes) (p : Runner) (r : ProcessStatus) (m : ArrayVec ℤ) → Named s → IsOf p r → Goes d names may s (gives s p r m)
  gives_goes may s p r m h e =
      after_goes may s (fills s (array_of_wait r.wait) m) _ (fills_goes may s (writes (array_of_wait r.wait) m) h)
      (λ k. released_goes may s p r code.NoError (pos (length m.items) ∷ []) r.wait h e)

  -- ---- the runners that are found

  -- the record found for a process is its own
  found_of : (s : Processes) (p : ProcessIndex) (o : Option ProcessStatus) (f : Runner × ProcessStatus) → Named s → row_of s (runner.Process p) ≡ o → numbered p o ≡ Some f
      → (f.0 ≡ runner.Process p) × IsOf f.0 f.1
  found_of s p None f h e g = absurd (none-some f g)
  found_of s p (Some r) f h e g =
      subst (λ (x : Runner × ProcessStatus). (x.0 ≡ runner.Process p) × IsOf x.0 x.1) (same_Some (runner.Process p, r) f g) (refl, named_at names s.rows (place_of (runner.Process p)) r h e)

  pub row_is_of : (s : Processes) (p : Runner) (r : ProcessStatus) → Named s → row_of s p ≡ Some r → IsOf p r
  row_is_of s p r h e = named_at names s.rows (place_of p) r h e

  pub on_goes : (may : May) (s : Processes) (o : Option (Runner × ProcessStatus)) (step : Runner → ProcessStatus → Step Processes) → Named s
      → ((f : Runner × ProcessStatus) → o ≡ Some f → Goes d names may s (step f.0 f.1)) → Goes d names may s (on o s step)
  on_goes may s None step h k = nothing_goes may s h
  on_goes may s (Some f) step h k = k f refl

  -- the process with a number
  pub at_of : (s : Processes) (id : ℤ) (f : Runner × ProcessStatus) → Named s → process_at s id ≡ Some f → IsOf f.0 f.1 × (process_of id ≡ itself f.0)
  at_of s (negsuc n) f h e = absurd (none-some f e)
  at_of s (pos zero) f h e = absurd (none-some f e)
  at_of s (pos (suc n)) f h e =
      let both = found_of s (index n) (row_of s (runner.Process (index n))) f h refl e in
      (both.1, sym (ap itself both.0))

  pub on_at : (may : May) (s : Processes) (id : ℤ) (step : Runner → ProcessStatus → Step Processes) → Named s
      → ((q : Runner) (r : ProcessStatus) → IsOf q r → process_of id ≡ itself q → Goes d names may s (step q r)) → Goes d names may s (on (process_at s id) s step)
  on_at may s id step h k = on_goes may s (process_at s id) step h (λ f e. let both = at_of s id f h e in k f.0 f.1 both.0 both.1)

  pub release_found_goes : (may : May) (s : Processes) (p : ProcessIndex) → Named s → Goes d names may s (releases_found s (numbered p (row_of s (runner.Process p))))
  release_found_goes may s p h = by_row (row_of s (runner.Process p)) refl
    where
      by_row : (o : Option ProcessStatus) → row_of s (runner.Process p) ≡ o → Goes d names may s (releases_found s (numbered p o))
      by_row None e = nothing_goes may s h
      by_row (Some r) e = release_goes may s (runner.Process p) r code.NoError h (row_is_of s (runner.Process p) r h e)

  pub releases_goes : (may : May) (es : List Entry) (s : Processes) → Named s → Goes d names may s (releases_all es s)
  releases_goes may [] s h = nothing_goes may s h
  releases_goes may (e ∷ es) s h = after_goes may s _ _ (release_found_goes may s e.process h) (λ k. releases_goes may es _ k)

  pub give_found_goes : (may : May) (s : Processes) (p : ProcessIndex) (m : ArrayVec ℤ) → Named s → Goes d names may s (gives_found s (numbered p (row_of s (runner.Process p))) m)
  give_found_goes may s p m h = by_row (row_of s (runner.Process p)) refl
    where
      by_row : (o : Option ProcessStatus) → row_of s (runner.Process p) ≡ o → Goes d names may s (gives_found s (numbered p o) m)
      by_row None e = nothing_goes may s h
      by_row (Some r) e = gives_goes may s (runner.Process p) r m h (row_is_of s (runner.Process p) r h e)

  pub give_all_goes : (may : May) (es : List Entry) (m : ArrayVec ℤ) (s : Processes) → Named s → Goes d names may s (gives_all es m s)
  give_all_goes may [] m s h = nothing_goes may s h
  give_all_goes may (e ∷ es) m s h = after_goes may s _ _ (give_found_goes may s e.process m h) (λ k. give_all_goes may es m _ k)

  -- the first process that waits
  first_of : (s : Processes) (es : List Entry) (f : Runner × ProcessStatus) → Named s → found_first s es ≡ Some f → IsOf f.0 f.1
  first_of s [] f h e = absurd (none-some f e)
  first_of s (x ∷ xs) f h e = let both = found_of s x.process (row_of s (runner.Process x.process)) f h refl e in both.1

  pub first_is_of : (s : Processes) (k : ListKey) (f : Runner × ProcessStatus) → Named s → first_waiting s k ≡ Some f → IsOf f.0 f.1
  first_is_of s k f h e = first_of s (waiting s k) f h e

  -- ---- the start of a wait

  waits_in : (may : May) (s : Processes) (p : Runner) (w : Place) (m : ArrayVec ℤ) (r : ProcessStatus) (reason : Wait) (due : Option Due) → w.discipline ≡ d w.list
      → may.begin_to_wait ≡ itself p → Named s → IsOf p r → Goes d names may s (waits (enters s p w m r) p r reason due)
  waits_in may s runner.Init w m r reason due same own h e = waits_goes may s runner.Init r reason due h e
  waits_in may s runner.Handler w m r reason due same own h e = waits_goes may s runner.Handler r reason due h e
  waits_in may s (runner.Process p) w m r reason due same own h e =
      let t = enters s (runner.Process p) w m r in
      let g = waits_goes may t (runner.Process p) r reason due h e in
      let joined : Follows d (BeginsToWait p.0 ∷ []) s t = λ n o.
      subst (λ (x : Discipline). IsInOrder d (take_one (BeginsToWait p.0) n) s.ready (joins w.list x (entry p r.current_priority) s.queues)) (sym same)
      (in_order_enters d n w.list (entry p r.current_priority) s.ready s.queues o) in
      record { takings = BeginsToWait p.0 ∷ g.takings; follows = λ n o. g.follows (take_one (BeginsToWait p.0) n) (joined n o); named = g.named; told = g.told; allowed = (own, g.allowed) }

  pub waits_at_goes : (at : At) (may : May) (s : Processes) (p : Runner) (limit : ℤ) (w : Place) (m : ArrayVec ℤ) → w.discipline ≡ d w.list → may.begin_to_wait ≡ itself p → Named s
      → Goes d names may s (waits_at at s p limit w m (row_of s p))
  waits_at_goes at may s p limit w m same own h = by_row (row_of s p) refl
    where
      by_row : (o : Option ProcessStatus) → row_of s p ≡ o → Goes d names may s (waits_at at s p limit w m o)
      by_row None e = nothing_goes may s h
      by_row (Some r) e = waits_in may s p w m r (wait.Object w.service w.array) (time_out at limit) same own h (row_is_of s p r h e)

  pub refuse_goes : (may : May) (s : Processes) (p : Runner) (v : Service) → Named s → (c : ReturnCode) → Goes d names may s (refuses s p v c)
  refuse_goes may s p v h c = record { takings = []; follows = λ n o. o; named = h; told = refl; allowed = tt }

  pub answer_goes : (may : May) (s : Processes) (p : Runner) (v : Service) (c : ReturnCode) (outputs : List ℤ) → Named s → Goes d names may s (answers s p v c outputs)
  answer_goes may s p v c outputs h = record { takings = []; follows = λ n o. o; named = h; told = refl; allowed = tt }

  pub blocks_goes : (at : At) (may : May) (s : Processes) (p : Runner) (limit : ℤ) (w : Place) (m : ArrayVec ℤ) → w.discipline ≡ d w.list → may.begin_to_wait ≡ itself p → Named s
      → Goes d names may s (blocks at s p limit w m)
  blocks_goes at may s p limit w m same own h =
      row_goes may s (refuses s p w.service) ((is_zero limit, code.NotAvailable) ∷ (is_busy s p, code.InvalidMode) ∷ []) _ (refuse_goes may s p w.service h)
      (waits_at_goes at may s p limit w m same own h)

  pub lock_goes : (may : May) (s : Processes) (p : Runner) (v : Service) (l : Lock) → Named s → Goes d names may s (with_lock s p v l)
  lock_goes may s p v l h = record { takings = []; follows = λ n o. o; named = h; told = refl; allowed = tt }
