-- A process that is not created is in no list, and no change of another process touches it.
use Rattle.std.proofs.Common.{◌≡◌, ◌≢◌, ℕ, zero, suc, ℤ, pos, Bool, true, false, not, cond, List, [], ◌∷◌, ◌++◌, length, map, nat_eq, Option, Some, None, refl, sym, ap, ◌∙◌, subst, arith}
use Rattle.std.specs.Prelude.{if◌then◌else◌, nat_lt, slice_get, slice_set}
use Rattle.std.proofs.lemmas.Bool.{eqb-true, eqb-false}
use Rattle.std.proofs.lemmas.Option.{none-some, same_Some}
use Rattle.arrayvec.specs.ArrayVec.{ArrayVec}
use Rattle.apex_types.specs.Runners.{Action, place_of}
use Rattle.apex_types.specs.declared.codes.Discipline.{Discipline}
use Rattle.apex_types.specs.declared.codes.Discipline.TheVariants as discipline
use Rattle.apex_types.specs.declared.codes.ProcessState.{ProcessState}
use Rattle.apex_types.specs.declared.codes.ProcessState.TheVariants.{Dormant, Ready, Running, Waiting}
use Rattle.apex_types.specs.declared.codes.ReturnCode.{ReturnCode}
use Rattle.apex_types.specs.declared.codes.ReturnCode.TheVariants as code
use Rattle.apex_types.specs.declared.event.EventKind.{EventKind}
use Rattle.apex_types.specs.declared.event.EventKind.TheVariants as event
use Rattle.apex_types.specs.declared.event.Subject.{Subject}
use Rattle.apex_types.specs.declared.event.Subject.TheVariants.{Process}
use Rattle.apex_types.specs.declared.identity.At.{At}
use Rattle.apex_types.specs.declared.identity.ListKey.{ListKey}
use Rattle.apex_types.specs.declared.identity.ListKey.TheVariants as key
use Rattle.apex_types.specs.declared.identity.ProcessIndex.{ProcessIndex}
use Rattle.apex_types.specs.declared.identity.Runner.{Runner}
use Rattle.apex_types.specs.declared.identity.Runner.TheVariants as runner
use Rattle.apex_types.specs.declared.process.Due.{Due}
use Rattle.apex_types.specs.declared.process.Entry.{Entry}
use Rattle.apex_types.specs.declared.process.ProcessStatus.{ProcessStatus}
use Rattle.apex_types.specs.declared.process.Wait.{Wait}
use Rattle.apex_types.specs.declared.process.Wait.TheVariants as wait
use Rattle.apex_types.specs.declared.process.Waiting.{Waiting as Place}
use Rattle.engine_meaning.specs.Operators.{is_zero}
use Rattle.kernel_laws.proofs.Places.{get_set_same, get_set_other}
use Rattle.kernel_laws.proofs.Records.{numbered_found}
use Rattle.kernel_meaning.specs.Processes.{Processes, row_of, numbered, on, put_row, put_ready, put_unready, waiting_lines, wakes, waits, rests, rests_found, answers_wait, released_with, no_longer_waits, leaves_queues, zeros_of_wait, is_busy}
use Rattle.kernel_meaning.specs.Queues.{Queues, entry, is_entry_of, without, behind_equals, list_in, list_at, put_list, each_list, without_in_all, joined, joins, no_entries, emptied}
use Rattle.kernel_meaning.specs.Sharing.{blocks, enters, waits_at, found_first, first_waiting, waiting, gives, gives_found, gives_all, releases_found, releases_all}
use Rattle.kernel_meaning.specs.Step.{Step, after}

-- a record of a process that is not created
pub record IsNew (r : ProcessStatus) : Type 0 where
  pub created : r.created ≡ false
  pub state : r.state ≡ Dormant
  pub waits : r.wait ≡ wait.Nothing
  pub due : r.due ≡ None
  pub deadline : r.deadline ≡ None

-- the process at `q`, with its name
module _ (q : ℕ) (name : List ℕ) where
  -- another runner
  abbrev pub IsOther : Runner → Type 0
  IsOther p = place_of p ≢ suc (suc q)

  -- ---- lines

  abbrev pub LineIsOther : EventKind → Type 0
  LineIsOther (event.State who state) = who ≢ Process name
  LineIsOther _ = Unit {0}

  abbrev pub LinesAreOther : List EventKind → Type 0
  LinesAreOther [] = Unit {0}
  LinesAreOther (k ∷ ks) = LineIsOther k × LinesAreOther ks

  pub both_other : (a b : List EventKind) → LinesAreOther a → LinesAreOther b → LinesAreOther (a ++ b)
  both_other [] b h k = k
  both_other (x ∷ a) b h k = (h.0, both_other a b h.1 k)

  -- ---- lists

  abbrev pub IsAbsent : List Entry → Type 0
  IsAbsent [] = Unit {0}
  IsAbsent (e ∷ es) = (e.process.0 ≢ q) × IsAbsent es

  abbrev pub AreAbsent : List (List Entry) → Type 0
  AreAbsent [] = Unit {0}
  AreAbsent (l ∷ ls) = IsAbsent l × AreAbsent ls

  -- it waits in no list
  pub record WaitsNowhere (qs : Queues) : Type 0 where
    pub semaphores : AreAbsent qs.semaphores
    pub events : AreAbsent qs.events
    pub buffers : AreAbsent qs.buffers
    pub blackboards : AreAbsent qs.blackboards
    pub ports : AreAbsent qs.ports

  absent_in : (ls : List (List Entry)) (place : ℕ) → AreAbsent ls → IsAbsent (list_in ls place)
  absent_in [] place h = tt
  absent_in (l ∷ ls) zero h = h.0
  absent_in (l ∷ ls) (suc place) h = absent_in ls place h.1

  pub absent_at : (qs : Queues) (k : ListKey) → WaitsNowhere qs → IsAbsent (list_at qs k)
  absent_at qs (key.Semaphore place) h = absent_in qs.semaphores place h.semaphores
  absent_at qs (key.Event place) h = absent_in qs.events place h.events
  absent_at qs (key.Buffer place) h = absent_in qs.buffers place h.buffers
  absent_at qs (key.Blackboard place) h = absent_in qs.blackboards place h.blackboards
  absent_at qs (key.Port place) h = absent_in qs.ports place h.ports

  absent_set : (ls : List (List Entry)) (place : ℕ) (l : List Entry) → AreAbsent ls → IsAbsent l → AreAbsent (slice_set ls place l)
  absent_set [] place l h k = tt
  absent_set (x ∷ ls) zero l h k = (k, h.1)
  absent_set (x ∷ ls) (suc place) l h k = (h.0, absent_set ls place l h.1 k)

  absent_put : (qs : Queues) (k : ListKey) (l : List Entry) → WaitsNowhere qs → IsAbsent l → WaitsNowhere (put_list qs k l)
  absent_put qs (key.Semaphore place) l h k = record { semaphores = absent_set qs.semaphores place l h.semaphores k; events = h.events; buffers = h.buffers; blackboards = h.blackboards; ports = h.ports }
  absent_put qs (key.Event place) l h k = record { semaphores = h.semaphores; events = absent_set qs.events place l h.events k; buffers = h.buffers; blackboards = h.blackboards; ports = h.ports }
  absent_put qs (key.Buffer place) l h k = record { semaphores = h.semaphores; events = h.events; buffers = absent_set qs.buffers place l h.buffers k; blackboards = h.blackboards; ports = h.ports }
  absent_put qs (key.Blackboard place) l h k = record { semaphores = h.semaphores; events = h.events; buffers = h.buffers; blackboards = absent_set qs.blackboards place l h.blackboards k; ports = h.ports }
  absent_put qs (key.Port place) l h k = record { semaphores = h.semaphores; events = h.events; buffers = h.buffers; blackboards = h.blackboards; ports = absent_set qs.ports place l h.ports k }

  absent_map : (change : List Entry → List Entry) → ((l : List Entry) → IsAbsent l → IsAbsent (change l)) → (ls : List (List Entry)) → AreAbsent ls → AreAbsent (map change ls)
  absent_map change keeps [] h = tt
  absent_map change keeps (l ∷ ls) h = (keeps l h.0, absent_map change keeps ls h.1)

  absent_each : (change : List Entry → List Entry) → ((l : List Entry) → IsAbsent l → IsAbsent (change l)) → (qs : Queues) → WaitsNowhere qs → WaitsNowhere (each_list change qs)
  absent_each change keeps qs h = record {
    semaphores = absent_map change keeps qs.semaphores h.semaphores;
    events = absent_map change keeps qs.events h.events;
    buffers = absent_map change keeps qs.buffers h.buffers;
    blackboards = absent_map change keeps qs.blackboards h.blackboards;
    ports = absent_map change keeps qs.ports h.ports;
  }

  absent_without : (p : ℕ) (l : List Entry) → IsAbsent l → IsAbsent (without p l)
  absent_without p [] h = tt
  absent_without p (e ∷ es) h = by_test (not (is_entry_of p e)) (absent_without p es h.1)
    where
      by_test : (b : Bool) → IsAbsent (without p es) → IsAbsent (cond b (e ∷ without p es) (without p es))
      by_test true k = (h.0, k)
      by_test false k = k

  absent_behind : (e : Entry) (l : List Entry) → e.process.0 ≢ q → IsAbsent l → IsAbsent (behind_equals e l)
  absent_behind e [] other h = (other, tt)
  absent_behind e (x ∷ xs) other h = by_test (nat_lt x.priority.0 e.priority.0) (absent_behind e xs other h.1)
    where
      by_test : (b : Bool) → IsAbsent (behind_equals e xs) → IsAbsent (cond b (e ∷ x ∷ xs) (x ∷ behind_equals e xs))
      by_test true k = (other, h)
      by_test false k = (h.0, k)

  absent_last : (e : Entry) (l : List Entry) → e.process.0 ≢ q → IsAbsent l → IsAbsent (l ++ e ∷ [])
  absent_last e [] other h = (other, tt)
  absent_last e (x ∷ xs) other h = (h.0, absent_last e xs other h.1)

  absent_joined : (d : Discipline) (e : Entry) (l : List Entry) → e.process.0 ≢ q → IsAbsent l → IsAbsent (joined d e l)
  absent_joined discipline.Fifo e l other h = absent_last e l other h
  absent_joined discipline.Priority e l other h = absent_behind e l other h

  absent_joins : (k : ListKey) (d : Discipline) (e : Entry) (qs : Queues) → e.process.0 ≢ q → WaitsNowhere qs → WaitsNowhere (joins k d e qs)
  absent_joins k d e qs other h =
      let w = absent_each (without e.process.0) (absent_without e.process.0) qs h in
      absent_put (without_in_all e.process.0 qs) k _ w (absent_joined d e _ other (absent_at (without_in_all e.process.0 qs) k w))

  absent_leaves : (p : Runner) (qs : Queues) → WaitsNowhere qs → WaitsNowhere (leaves_queues p qs)
  absent_leaves runner.Init qs h = h
  absent_leaves runner.Handler qs h = h
  absent_leaves (runner.Process p) qs h = absent_each (without p.0) (absent_without p.0) qs h

  pub absent_emptied : (qs : Queues) → WaitsNowhere qs → WaitsNowhere (emptied qs)
  absent_emptied qs h = absent_each no_entries (λ l k. tt) qs h

  -- ---- records

  pub record RowsSleep (rows : List ProcessStatus) : Type 0 where
    pub own : (r : ProcessStatus) → slice_get rows (suc (suc q)) ≡ Some r → IsNew r
    pub others : (place : ℕ) (r : ProcessStatus) → place ≢ suc (suc q) → slice_get rows place ≡ Some r → r.who ≢ Process name

  others_set : (rows : List ProcessStatus) (place : ℕ) (r x : ProcessStatus) → place ≢ suc (suc q) → slice_get rows place ≡ Some r → x.who ≡ r.who → RowsSleep rows
      → (i : ℕ) (y : ProcessStatus) → i ≢ suc (suc q) → slice_get (slice_set rows place x) i ≡ Some y → y.who ≢ Process name
  others_set rows place r x other there who h i y n e = by_test (nat_eq place i) refl
    where
      by_test : (b : Bool) → nat_eq place i ≡ b → y.who ≢ Process name
      by_test true t =
          let here : slice_get (slice_set rows place x) i ≡ Some x = subst (λ (j : ℕ). slice_get (slice_set rows place x) j ≡ Some x) (eqb-true place i t) (get_set_same rows place r x there) in
          let is : x ≡ y = same_Some x y (sym here ∙ e) in
          λ k. h.others place r other there (sym who ∙ ap (λ (z : ProcessStatus). z.who) is ∙ k)
      by_test false t = h.others i y n (sym (get_set_other rows place i x (eqb-false place i t)) ∙ e)

  pub rows_set : (rows : List ProcessStatus) (place : ℕ) (r x : ProcessStatus) → place ≢ suc (suc q) → slice_get rows place ≡ Some r → x.who ≡ r.who → RowsSleep rows → RowsSleep (slice_set rows place x)
  rows_set rows place r x other there who h = record {
    own = λ y e. h.own y (sym (get_set_other rows place (suc (suc q)) x other) ∙ e);
    others = others_set rows place r x other there who h;
  }

  -- The process is not created, and waits nowhere; the others have other names.
  pub record Sleeps (s : Processes) : Type 0 where
    pub rows : RowsSleep s.rows
    pub queues : WaitsNowhere s.queues

  -- after a step it is still so, and no line of the step is about its state
  pub record Keeps (t : Step Processes) : Type 0 where
    pub part : Sleeps t.part
    pub lines : LinesAreOther t.lines

  pub either : (b : Bool) (t u : Step Processes) → Keeps t → Keeps u → Keeps (if b then t else u)
  either true t u h k = h
  either false t u h k = k

  pub in_turn : (t u : Step Processes) → Keeps t → Keeps u → Keeps (after t u)
  in_turn t u h k = record { part = k.part; lines = both_other t.lines u.lines h.lines k.lines }

  waiting_other : (who : Subject) (state : ProcessState) → who ≢ Process name → LinesAreOther (waiting_lines who state)
  waiting_other who Dormant h = (h, tt)
  waiting_other who Ready h = (h, tt)
  waiting_other who Running h = (h, tt)
  waiting_other who Waiting h = tt

  -- ---- changes of another process

  module _ (s : Processes) (h : Sleeps s) where
    pub here : (lines : List EventKind) (actions : List Action) → LinesAreOther lines → Keeps (record { part = s; lines = lines; actions = actions })
    here lines actions k = record { part = h; lines = k }

    -- its record is replaced by one with the same name
    pub put_keeps : (p : Runner) (r x : ProcessStatus) → IsOther p → row_of s p ≡ Some r → x.who ≡ r.who → Sleeps (put_row s p x)
    put_keeps p r x other there who = record { rows = rows_set s.rows (place_of p) r x other there who h.rows; queues = h.queues }

    pub ready_keeps : (p : Runner) (r x : ProcessStatus) → IsOther p → row_of s p ≡ Some r → x.who ≡ r.who → Sleeps (put_ready s p x)
    ready_keeps p r x other there who = record { rows = rows_set s.rows (place_of p) r x other there who h.rows; queues = h.queues }

    unready_keeps : (p : Runner) (r x : ProcessStatus) → IsOther p → row_of s p ≡ Some r → x.who ≡ r.who → Sleeps (put_unready s p x)
    unready_keeps p r x other there who = record { rows = rows_set s.rows (place_of p) r x other there who h.rows; queues = h.queues }

    pub named_other : (p : Runner) (r x : ProcessStatus) → IsOther p → row_of s p ≡ Some r → x.who ≡ r.who → x.who ≢ Process name
    named_other p r x other there who = λ k. h.rows.others (place_of p) r other there (sym who ∙ k)

    pub wakes_keeps : (p : Runner) (r x : ProcessStatus) → IsOther p → row_of s p ≡ Some r → x.who ≡ r.who → Keeps (wakes s p x)
    wakes_keeps p r x other there who =
        either x.suspended _ _ (record { part = unready_keeps p r (record x { wait = wait.Nothing; due = None }) other there who; lines = tt })
        (record { part = ready_keeps p r (record x { state = Ready; wait = wait.Nothing; due = None }) other there who; lines = (named_other p r x other there who, tt) })

    pub waits_keeps : (p : Runner) (r x : ProcessStatus) (reason : Wait) (due : Option Due) → IsOther p → row_of s p ≡ Some r → x.who ≡ r.who → Keeps (waits s p x reason due)
    waits_keeps p r x reason due other there who = record { part = unready_keeps p r (record x { state = Waiting; wait = reason; due = due }) other there who; lines = waiting_other x.who x.state (named_other p r x other there who) }

    pub rests_keeps : (p : Runner) (r : ProcessStatus) → IsOther p → row_of s p ≡ Some r → Keeps (rests s p r)
    rests_keeps p r other there = record {
      part = record { rows = rows_set s.rows (place_of p) r (record r { state = Dormant; suspended = false; wait = wait.Nothing; due = None; deadline = None }) other there refl h.rows; queues = absent_leaves p s.queues h.queues };
      lines = (named_other p r r other there refl, tt);
    }

    pub rests_found_keeps : (p : Runner) → IsOther p → Keeps (rests_found s p (row_of s p))
    rests_found_keeps p other = by_row (row_of s p) refl
      where
        by_row : (o : Option ProcessStatus) → row_of s p ≡ o → Keeps (rests_found s p o)
        by_row None e = here [] [] tt
        by_row (Some r) e = rests_keeps p r other e

    wait_keeps : (p : Runner) (r : ProcessStatus) (c : ReturnCode) (outputs : List ℤ) (w : Wait) → LinesAreOther (answers_wait s p r c outputs w).lines
    wait_keeps p r c outputs wait.Nothing = tt
    wait_keeps p r c outputs (wait.NormalStart delay) = tt
    wait_keeps p r c outputs wait.FirstRelease = tt
    wait_keeps p r c outputs (wait.Service v) = (tt, tt)
    wait_keeps p r c outputs (wait.Object v array) = (tt, tt)

    no_longer : (p : Runner) → Sleeps (no_longer_waits s p)
    no_longer p = record { rows = h.rows; queues = absent_leaves p s.queues h.queues }

  pub released_with_keeps : (s : Processes) → Sleeps s → (p : Runner) (r x : ProcessStatus) (c : ReturnCode) (outputs : List ℤ) → IsOther p → row_of s p ≡ Some r → x.who ≡ r.who → Keeps (released_with s p x c outputs)
  released_with_keeps s h p r x c outputs other there who =
      let k = wakes_keeps (no_longer_waits s p) (no_longer s h p) p r x other there who in
      record { part = k.part; lines = both_other (answers_wait s p x c outputs x.wait).lines _ (wait_keeps s h p x c outputs x.wait) k.lines }

  pub gives_keeps : (s : Processes) → Sleeps s → (p : Runner) (r : ProcessStatus) (m : ArrayVec ℤ) → IsOther p → row_of s p ≡ Some r → Keeps (gives s p r m)
  gives_keeps s h p r m other there = let k = released_with_keeps s h p r r code.NoError (pos (length m.items) ∷ []) other there refl in record { part = k.part; lines = k.lines }

  -- ---- the processes that wait

  -- what is found is another runner, with its own record
  abbrev pub FindsOther : Processes → Option (Runner × ProcessStatus) → Type 0
  FindsOther s o = (f : Runner × ProcessStatus) → o ≡ Some f → IsOther f.0 × (row_of s f.0 ≡ Some f.1)

  pub entry_finds : (s : Processes) (p : ProcessIndex) → p.0 ≢ q → FindsOther s (numbered p (row_of s (runner.Process p)))
  entry_finds s p other f e = (own (row_of s (runner.Process p)) e, numbered_found s p f e)
    where
      own : (o : Option ProcessStatus) → numbered p o ≡ Some f → IsOther f.0
      own None k = absurd (none-some f k)
      own (Some r) k = subst (λ (x : Runner × ProcessStatus). IsOther x.0) (same_Some (runner.Process p, r) f k) (λ i. other (omega (arith, i)))

  pub first_finds : (s : Processes) → Sleeps s → (k : ListKey) → FindsOther s (first_waiting s k)
  first_finds s h k = by_list (waiting s k) (absent_at s.queues k h.queues)
    where
      by_list : (es : List Entry) → IsAbsent es → FindsOther s (found_first s es)
      by_list [] g f e = absurd (none-some f e)
      by_list (x ∷ xs) g f e = entry_finds s x.process g.0 f e

  pub on_found : (s : Processes) → Sleeps s → (o : Option (Runner × ProcessStatus)) (step : Runner → ProcessStatus → Step Processes) → FindsOther s o
      → ((p : Runner) (r : ProcessStatus) → IsOther p → row_of s p ≡ Some r → Keeps (step p r)) → Keeps (on o s step)
  on_found s h None step found k = here s h [] [] tt
  on_found s h (Some f) step found k = let g = found f refl in k f.0 f.1 g.0 g.1

  pub releases_keep : (es : List Entry) (s : Processes) → IsAbsent es → Sleeps s → Keeps (releases_all es s)
  releases_keep [] s g h = here s h [] [] tt
  releases_keep (e ∷ es) s g h =
      let t = one (numbered e.process (row_of s (runner.Process e.process))) (entry_finds s e.process g.0) in
      in_turn _ _ t (releases_keep es _ g.1 t.part)
    where
      one : (o : Option (Runner × ProcessStatus)) → FindsOther s o → Keeps (releases_found s o)
      one None found = here s h [] [] tt
      one (Some f) found = let k = found f refl in released_with_keeps s h f.0 f.1 f.1 code.NoError (zeros_of_wait f.1.wait) k.0 k.1 refl

  pub gives_all_keep : (es : List Entry) (m : ArrayVec ℤ) (s : Processes) → IsAbsent es → Sleeps s → Keeps (gives_all es m s)
  gives_all_keep [] m s g h = here s h [] [] tt
  gives_all_keep (e ∷ es) m s g h =
      let t = one (numbered e.process (row_of s (runner.Process e.process))) (entry_finds s e.process g.0) in
      in_turn _ _ t (gives_all_keep es m _ g.1 t.part)
    where
      one : (o : Option (Runner × ProcessStatus)) → FindsOther s o → Keeps (gives_found s o m)
      one None found = here s h [] [] tt
      one (Some f) found = let k = found f refl in gives_keeps s h f.0 f.1 m k.0 k.1

  -- another caller that has to wait
  pub blocks_keep : (at : At) (s : Processes) → Sleeps s → (p : Runner) (limit : ℤ) (w : Place) (m : ArrayVec ℤ) → IsOther p → Keeps (blocks at s p limit w m)
  blocks_keep at s h p limit w m other =
      either (is_zero limit) _ _ (here s h _ _ (tt, tt)) (either (is_busy s p) _ _ (here s h _ _ (tt, tt)) (found p (row_of s p) refl other))
    where
      found : (p : Runner) (o : Option ProcessStatus) → row_of s p ≡ o → IsOther p → Keeps (waits_at at s p limit w m o)
      found p None e other = here s h [] [] tt
      found runner.Init (Some r) e other = waits_keeps s h runner.Init r r _ _ other e refl
      found runner.Handler (Some r) e other = waits_keeps s h runner.Handler r r _ _ other e refl
      found (runner.Process i) (Some r) e other =
          waits_keeps (enters s (runner.Process i) w m r) (record { rows = h.rows; queues = absent_joins w.list w.discipline (entry i r.current_priority) s.queues (λ k. other (omega (arith, k))) h.queues }) (runner.Process i) r r _ _ other e refl
