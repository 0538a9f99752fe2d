-- The choice keeps the agreement of the ready list with the records, and the picked runner runs.
use Rattle.kernel_laws.proofs.Prelude.{◌≡◌, inl, ℕ, Bool, true, false, List, ◌∷◌, Option, Some, None, refl, sym, subst, ◌∙◌, eqb-true, none-some, same_Some, if◌then◌else◌, is_some, Mode, Ready, Running, Priority, ProcessIndex, Runner, Entry, Lock, ProcessStatus, IsAmong, are_same, chooses, is_ready, leaves_processor, pick, preempts, runs, takes_processor, unless_held, is_ready_state, Processes, row_of, index, is_same, Step, IsPlain, IsReadyAt, RecordsAgree, record_at}
use Rattle.std.proofs.Common.{[], ap}
use Rattle.std.proofs.lemmas.Bool.{false≢true}
use Rattle.apex_types.specs.declared.codes.Mode.TheVariants as mode
use Rattle.apex_types.specs.declared.identity.Runner.TheVariants as runner
use Rattle.apex_types.specs.declared.process.Lock.TheVariants as lock
use Rattle.kernel_meaning.specs.Partition.{first_ready}
use Rattle.kernel_laws.proofs.RecordRows.{IsCaller}
use Rattle.kernel_laws.proofs.Records.{OfProcess, either, kept_agrees, plain_of, same_at, stays_ready, was_at}

-- ---- the identity of runners

process_or : ProcessIndex → Runner → ProcessIndex
process_or other (runner.Process p) = p
process_or other _ = other

same_process : (p q : ProcessIndex) → runner.Process p ≡ runner.Process q → p ≡ q
unfolding process_or
same_process p q e = ap (process_or q) e

is_process : Runner → Bool
is_process (runner.Process p) = true
is_process _ = false

pub not_init : (q : ProcessIndex) → runner.Init ≡ runner.Process q → ⊥
unfolding is_process
not_init q e = false≢true (ap is_process e)

pub not_handler : (q : ProcessIndex) → runner.Handler ≡ runner.Process q → ⊥
unfolding is_process
not_handler q e = false≢true (ap is_process e)

pub same_runner : (p q : Runner) → is_same p q ≡ true → p ≡ q
same_runner runner.Init runner.Init e = refl
same_runner runner.Init runner.Handler e = absurd (false≢true e)
same_runner runner.Init (runner.Process q) e = absurd (false≢true e)
same_runner runner.Handler runner.Init e = absurd (false≢true e)
same_runner runner.Handler runner.Handler e = refl
same_runner runner.Handler (runner.Process q) e = absurd (false≢true e)
same_runner (runner.Process p) runner.Init e = absurd (false≢true e)
same_runner (runner.Process p) runner.Handler e = absurd (false≢true e)
same_runner (runner.Process p) (runner.Process q) e = ap (λ (n : ℕ). runner.Process (index n)) (eqb-true p.0 q.0 e)

same_option : (o k : Option Runner) → are_same o k ≡ true → o ≡ k
same_option None None e = refl
same_option None (Some q) e = absurd (false≢true e)
same_option (Some p) None e = absurd (false≢true e)
same_option (Some p) (Some q) e = ap Some (same_runner p q e)

-- a runner that is READY or RUNNING has a record
ready_some : (o : Option ProcessStatus) → is_ready o ≡ true → is_some o ≡ true
ready_some None e = e
ready_some (Some r) e = refl

ready_at : (o : Option ProcessStatus) (priority : Priority) → IsReadyAt o priority → is_ready o ≡ true
ready_at None priority h = absurd h
ready_at (Some r) priority h = h.0

-- INIT, the handler, and each process that is READY or RUNNING have a record
has_record : (s : Processes) → RecordsAgree s → (p : Runner) → IsCaller s p → is_some (row_of s p) ≡ true
has_record s h runner.Init ready = h.init
has_record s h runner.Handler ready = h.handler
has_record s h (runner.Process q) ready = ready_some (record_at s.rows q) (ready q refl)

module _ (s : Processes) (h : RecordsAgree s) where
  -- the current runner is READY or RUNNING, if it is a process
  pub runs_ready : (p : Runner) → s.running ≡ Some p → IsCaller s p
  runs_ready p e q is = h.runs q (e ∙ ap Some is)

  -- ---- another record of a runner that is READY or RUNNING

  as_ready : (p : Runner) (r x : ProcessStatus) → row_of s p ≡ Some r → IsCaller s p → OfProcess p (is_ready_state r.state ≡ true)
  as_ready p r x there ready q is = sym (ap is_ready (was_at s h p r x there q is)) ∙ ready q is

  as_plain : (p : Runner) (r x : ProcessStatus) → row_of s p ≡ Some r → IsCaller s p → x.suspended ≡ r.suspended → x.wait ≡ r.wait → x.due ≡ r.due → OfProcess p (IsPlain x)
  as_plain p r x there ready suspended wait due q is =
      let k = plain_of s h p r x there q is in
      let e = as_ready p r x there ready q is in
      record { suspended = λ n. suspended ∙ k.suspended e; waits = λ n. wait ∙ k.waits e; due = λ n. due ∙ k.due e }

  -- ---- the old runner leaves the processor

  preempts_agrees : (p : Runner) → s.running ≡ Some p → RecordsAgree (preempts s p (row_of s p)).part
  preempts_agrees p e = by_row (row_of s p) refl
    where
      by_row : (o : Option ProcessStatus) → row_of s p ≡ o → RecordsAgree (preempts s p o).part
      by_row None there = h
      by_row (Some r) there =
          let x : ProcessStatus = record r { state = Ready } in
          let ready = runs_ready p e in
          let k = kept_agrees s h p r x there (λ q is. sym (as_ready p r x there ready q is)) (λ q is n. refl) (as_plain p r x there ready refl refl refl) in
          record { listed = k.listed; plain = k.plain; runs = λ q n. absurd (none-some (runner.Process q) n); holds = k.holds; init = k.init; handler = k.handler }

  pub leaves_agrees : (o : Option Runner) → s.running ≡ o → RecordsAgree (leaves_processor s o).part
  leaves_agrees None e = h
  leaves_agrees (Some p) e = preempts_agrees p e

  -- then nothing runs
  none_runs : (o : Option Runner) → s.running ≡ o → (leaves_processor s o).part.running ≡ None
  none_runs None e = e
  none_runs (Some p) e = by_row (row_of s p) refl
    where
      by_row : (o : Option ProcessStatus) → row_of s p ≡ o → (preempts s p o).part.running ≡ None
      by_row None there = absurd (false≢true (sym (ap is_some there) ∙ has_record s h p (runs_ready p e)))
      by_row (Some r) there = refl

  -- ---- the picked runner takes it

  runs_agrees : (p : Runner) → IsCaller s p → RecordsAgree (runs s p (row_of s p)).part
  runs_agrees p ready = by_row (row_of s p) refl
    where
      by_row : (o : Option ProcessStatus) → row_of s p ≡ o → RecordsAgree (runs s p o).part
      by_row None there = h
      by_row (Some r) there =
          let x : ProcessStatus = record r { state = Running } in
          let k = kept_agrees s h p r x there (λ q is. sym (as_ready p r x there ready q is)) (λ q is n. refl) (as_plain p r x there ready refl refl refl) in
          record { listed = k.listed; plain = k.plain; runs = λ q n. ap is_ready (same_at s h p r x there q (same_Some p (runner.Process q) n)); holds = k.holds; init = k.init; handler = k.handler }

  takes_agrees : (o : Option Runner) → ((p : Runner) → o ≡ Some p → IsCaller s p) → RecordsAgree (takes_processor s o).part
  takes_agrees None ready = h
  takes_agrees (Some p) ready = runs_agrees p (ready p refl)

  takes_runs : (o : Option Runner) → s.running ≡ None → ((p : Runner) → o ≡ Some p → IsCaller s p) → (takes_processor s o).part.running ≡ o
  takes_runs None none ready = none
  takes_runs (Some p) none ready = by_row (row_of s p) refl
    where
      by_row : (o : Option ProcessStatus) → row_of s p ≡ o → (runs s p o).part.running ≡ Some p
      by_row None there = absurd (false≢true (sym (ap is_some there) ∙ has_record s h p (ready p refl)))
      by_row (Some r) there = refl

  -- ---- the picked runner is READY or RUNNING, if it is a process

  first_is_ready : (ready : List Entry) → s.ready ≡ ready → (p : Runner) → first_ready ready ≡ Some p → IsCaller s p
  first_is_ready [] e p first q is = absurd (none-some p first)
  first_is_ready (x ∷ xs) e p first q is =
      let same : x.process ≡ q = same_process x.process q (same_Some (runner.Process x.process) p first ∙ is) in
      let among : IsAmong x s.ready = subst (λ (es : List Entry). IsAmong x es) (sym e) (inl refl) in
      subst (λ (z : ProcessIndex). is_ready (record_at s.rows z) ≡ true) same (ready_at (record_at s.rows x.process) x.priority ((h.listed x).0 among))

  unless_held_ready : (held : Lock) → s.lock ≡ held → (p : Runner) → unless_held held s.ready ≡ Some p → IsCaller s p
  unless_held_ready lock.Free e p k = first_is_ready s.ready refl p k
  unless_held_ready (lock.Held level holder) e p k = λ q is. h.holds level q (e ∙ ap (λ (z : ProcessIndex). lock.Held level z) (same_process holder q (same_Some (runner.Process holder) p k ∙ is)))

  pub picked_ready : (m : Mode) (p : Runner) → pick m s ≡ Some p → IsCaller s p
  picked_ready mode.Idle p k = λ q is. absurd (none-some p k)
  picked_ready mode.ColdStart p k = λ q is. absurd (not_init q (same_Some runner.Init p k ∙ is))
  picked_ready mode.WarmStart p k = λ q is. absurd (not_init q (same_Some runner.Init p k ∙ is))
  picked_ready mode.Normal p k = by_test (is_ready (row_of s runner.Handler)) k
    where
      by_test : (b : Bool) → (if b then Some runner.Handler else unless_held s.lock s.ready) ≡ Some p → IsCaller s p
      by_test true n = λ q is. absurd (not_handler q (same_Some runner.Handler p n ∙ is))
      by_test false n = unless_held_ready s.lock refl p n

  -- it stays so when the old runner leaves the processor
  kept_ready : (o : Option Runner) → s.running ≡ o → (q : ProcessIndex) → is_ready (record_at s.rows q) ≡ true → is_ready (record_at (leaves_processor s o).part.rows q) ≡ true
  kept_ready None e q ready = ready
  kept_ready (Some p) e q ready = by_row (row_of s p) refl
    where
      by_row : (o : Option ProcessStatus) → row_of s p ≡ o → is_ready (record_at (preempts s p o).part.rows q) ≡ true
      by_row None there = ready
      by_row (Some r) there = stays_ready s h p r (record r { state = Ready }) there (λ i is k. refl) q ready

  -- ---- the choice

  pub picked_after : (m : Mode) (p : Runner) → pick m s ≡ Some p → IsCaller (leaves_processor s s.running).part p
  picked_after m p k q is = kept_ready s.running refl q (picked_ready m p k q is)

runs_by : (b : Bool) (t u : Step Processes) (o : Option Runner) → (b ≡ true → t.part.running ≡ o) → (b ≡ false → u.part.running ≡ o) → (if b then t else u).part.running ≡ o
runs_by true t u o h k = h refl
runs_by false t u o h k = k refl

pub chooses_agrees : (m : Mode) (s : Processes) → RecordsAgree s → RecordsAgree (chooses m s).part
chooses_agrees m s h =
    either (λ v. v) (are_same s.running (pick m s)) _ _ (λ e. h)
    (λ e. takes_agrees (leaves_processor s s.running).part (leaves_agrees s h s.running refl) (pick m s) (picked_after s h m))

-- the picked runner runs
pub picked_runs : (m : Mode) (s : Processes) → RecordsAgree s → (chooses m s).part.running ≡ pick m s
picked_runs m s h =
    runs_by (are_same s.running (pick m s)) _ _ (pick m s) (λ e. same_option s.running (pick m s) e)
    (λ e. takes_runs (leaves_processor s s.running).part (leaves_agrees s h s.running refl) (pick m s) (none_runs s h s.running refl) (picked_after s h m))
