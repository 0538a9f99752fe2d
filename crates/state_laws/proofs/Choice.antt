-- The lines of the choice agree with it, and nobody has worked by them.
use Rattle.std.proofs.Common.{◌≡◌, ℕ, Bool, true, false, not, List, [], Option, Some, None, refl, sym, ap, ◌∙◌, subst}
use Rattle.std.specs.Prelude.{◌&&◌, if◌then◌else◌, is_some, slice_get, slice_set}
use Rattle.std.proofs.lemmas.Bool.{and_parts, false≢true}
use Rattle.std.proofs.lemmas.Option.{none-some, same_Some}
use Rattle.apex_types.specs.Runners.{place_of}
use Rattle.apex_types.specs.declared.codes.Mode.{Mode}
use Rattle.apex_types.specs.declared.codes.ProcessState.TheVariants.{Ready, Running}
use Rattle.apex_types.specs.declared.event.Subject.{Subject}
use Rattle.apex_types.specs.declared.identity.Runner.{Runner}
use Rattle.apex_types.specs.declared.identity.Runner.TheVariants as runner
use Rattle.apex_types.specs.declared.process.ProcessStatus.{ProcessStatus}
use Rattle.kernel_laws.specs.Agreement.{IsPlain, RecordsAgree}
use Rattle.kernel_laws.proofs.Places.{get_set_same}
use Rattle.kernel_laws.proofs.RecordChoice.{leaves_agrees, picked_after}
use Rattle.kernel_laws.proofs.RecordKernel.{handler_agrees}
use Rattle.kernel_laws.proofs.RecordRows.{IsCaller}
use Rattle.kernel_laws.proofs.Records.{OfProcess}
use Rattle.kernel_meaning.specs.HealthServices.{starts_handler, begins_if_dormant, is_waiting}
use Rattle.kernel_meaning.specs.Kernel.{Errors, Kernel, with_errors}
use Rattle.kernel_meaning.specs.Partition.{preempts, runs, leaves_processor, takes_processor, are_same, chooses, pick, is_ready}
use Rattle.kernel_meaning.specs.Processes.{Processes, row_of, who_of, is_dormant, is_dormant_state, is_normal}
use Rattle.kernel_meaning.specs.ProcessServices.{is_ready_state}
use Rattle.kernel_meaning.specs.Sharing.{Sharing}
use Rattle.kernel_meaning.specs.Step.{after}
use Rattle.state_laws.specs.Told.{Told, is_it, preempted, running_or, with_state, worked_in, worker_by_lines}
use Rattle.state_laws.specs.States.{who_runs}
use Rattle.state_laws.proofs.Agreement.{reads, IsRunning, Agrees, KernelAgrees, Goes, GoesTo, goes, has_worked_last, idles, in_turn, either, kept_told, passed, still_named}
use Rattle.state_laws.proofs.Changes.{here, states_set, is_in, out_by_state, wakes_goes}
use Rattle.state_laws.proofs.Subjects.{same_itself}

module _ (tick : ℕ) (t : Told) (s : Processes) (h : Agrees t s) where
  -- ---- the old runner leaves the processor

  preempts_goes : (p : Runner) → s.running ≡ Some p → Goes has_worked_last tick t (preempts s p (row_of s p))
  preempts_goes p e = by_row (row_of s p) refl
    where
      by_row : (o : Option ProcessStatus) → row_of s p ≡ o → Goes has_worked_last tick t (preempts s p o)
      by_row None there = record { agrees = h; mode = refl; same = refl }
      by_row (Some r) there =
          let x : ProcessStatus = record r { state = Ready } in
          let found : is_it r.who t.running ≡ true = ap (is_it r.who) (is_in tick t s h p r x there refl e) ∙ same_itself r.who in
          goes has_worked_last tick t _
          (subst (λ (b : Bool). GoesTo has_worked_last t (with_state r.who Ready (if b then preempted t else t)) (slice_set s.rows (place_of p) x) None) (sym found)
          (record {
            agrees = record {
              named = still_named s.rows (place_of p) r x there refl h.named;
              states = states_set tick t s h p r x there refl (with_state r.who Ready t).state (λ w. refl);
              running = refl;
              runs = λ q k. absurd (none-some q k);
            };
            mode = refl;
            same = refl;
          }))

  leaves_goes : (o : Option Runner) → s.running ≡ o → Goes has_worked_last tick t (leaves_processor s o)
  leaves_goes None e = here tick t s h has_worked_last []
  leaves_goes (Some p) e = preempts_goes p e

  -- the current runner has a record
  none_left : (o : Option Runner) → s.running ≡ o → (leaves_processor s o).part.running ≡ None
  none_left None e = e
  none_left (Some p) e = by_row (row_of s p) refl
    where
      by_row : (o : Option ProcessStatus) → row_of s p ≡ o → (preempts s p o).part.running ≡ None
      by_row None there = absurd (subst (IsRunning p) there (h.runs p e))
      by_row (Some r) there = refl

  -- ---- the picked runner takes it

  runs_goes : worker_by_lines tick t ≡ None → (p : Runner) (r : ProcessStatus) → row_of s p ≡ Some r → OfProcess p (IsPlain (record r { state = Running })) → Goes has_worked_last tick t (runs s p (Some r))
  runs_goes free p r there plain = record {
    agrees = record {
      named = still_named s.rows (place_of p) r x there refl h.named;
      states = states_set tick t s h p r x there refl (with_state r.who Running t).state (λ w. refl);
      running = ap Some (sym (ap who_of here_now));
      runs = λ q e. subst (λ (o : Runner). IsRunning o (slice_get rows (place_of o))) (same_Some p q e) (subst (IsRunning p) (sym here_now) (refl, plain));
    };
    mode = ap (λ (b : Bool). record (kept_told t) { orderly = b }) (ap (λ (o : Option Subject). t.orderly && not (is_some o)) free ∙ and_true t.orderly);
    same = refl;
  }
    where
      and_true : (b : Bool) → (b && true) ≡ b
      and_true true = refl
      and_true false = refl

      x : ProcessStatus
      x = record r { state = Running }

      rows : List ProcessStatus
      rows = slice_set s.rows (place_of p) x

      here_now : slice_get rows (place_of p) ≡ Some x
      here_now = get_set_same s.rows (place_of p) r x there

  -- a ready process is plain
  plain_of : RecordsAgree s → (p : Runner) (r : ProcessStatus) → row_of s p ≡ Some r → IsCaller s p → OfProcess p (IsPlain (record r { state = Running }))
  plain_of agree p r there ready q is =
      let at : row_of s (runner.Process q) ≡ Some r = subst (λ (o : Runner). row_of s o ≡ Some r) is there in
      let plain = agree.plain q r at in
      let e : is_ready_state r.state ≡ true = sym (ap is_ready at) ∙ ready q is in
      record { suspended = λ n. plain.suspended e; waits = λ n. plain.waits e; due = λ n. plain.due e }

  takes_goes : worker_by_lines tick t ≡ None → RecordsAgree s → (o : Option Runner) → ((p : Runner) → o ≡ Some p → IsCaller s p) → Goes has_worked_last tick t (takes_processor s o)
  takes_goes free agree None ready = here tick t s h has_worked_last []
  takes_goes free agree (Some p) ready = by_row (row_of s p) refl
    where
      by_row : (o : Option ProcessStatus) → row_of s p ≡ o → Goes has_worked_last tick t (runs s p o)
      by_row None there = here tick t s h has_worked_last []
      by_row (Some r) there = runs_goes free p r there (plain_of agree p r there (ready p refl))

  -- ---- the handler starts

  handler_goes : (o : Option ProcessStatus) → row_of s runner.Handler ≡ o → Goes has_worked_last tick t (begins_if_dormant s o)
  handler_goes None there = here tick t s h has_worked_last []
  handler_goes (Some r) there =
      passed has_worked_last tick t (r.created && is_dormant r) _ _
      (λ e. let d = and_parts r.created (is_dormant r) e in
      let k = idles tick t _ (wakes_goes tick t s h runner.Handler r r there refl refl (out_by_state tick t s h runner.Handler r there (λ i. false≢true (sym (ap is_dormant_state i) ∙ d.1)))) in
      record { agrees = k.agrees; mode = k.mode; same = k.same })
      (λ e. here tick t s h has_worked_last [])

module _ (tick : ℕ) where
  chooses_goes : (m : Mode) (t : Told) (s : Processes) → Agrees t s → worked_in tick t.worked ≡ None → RecordsAgree s → Goes has_worked_last tick t (chooses m s)
  chooses_goes m t s h unspent agree =
      let l = leaves_processor s s.running in
      let k = leaves_goes tick t s h s.running refl in
      let v = reads tick t l.lines in
      let none : v.running ≡ None = k.agrees.running ∙ ap (who_runs l.part.rows) (none_left tick t s h s.running refl) in
      let free : worker_by_lines tick v ≡ None = ap (λ (o : Option Subject). running_or o (worked_in tick v.worked)) none ∙ ap (worked_in tick) k.same ∙ unspent in
      either has_worked_last tick t (are_same s.running (pick m s)) _ _ (here tick t s h has_worked_last [])
      (in_turn has_worked_last tick t l (takes_processor l.part (pick m s)) k (takes_goes tick v l.part k.agrees free (leaves_agrees s agree s.running refl) (pick m s) (picked_after s agree m)))

  starts_goes : (m : Mode) (t : Told) (b : Sharing Errors) → Agrees t b.processes → Goes has_worked_last tick t (starts_handler m b)
  starts_goes m t b h =
      either has_worked_last tick t (is_normal m && is_waiting b.shared.waiting) _ _ (handler_goes tick t b.processes h (row_of b.processes runner.Handler) refl) (here tick t b.processes h has_worked_last [])

  pub choice_goes : (t : Told) (k : Kernel) → KernelAgrees t k → worked_in tick t.worked ≡ None → RecordsAgree k.processes
      → Goes has_worked_last tick t (let s = starts_handler k.mode (with_errors k) in after s (chooses k.mode s.part))
  choice_goes t k h unspent agree =
      let s = starts_handler k.mode (with_errors k) in
      let a = starts_goes k.mode t (with_errors k) h.processes in
      let c = chooses_goes k.mode (reads tick t s.lines) s.part a.agrees (ap (worked_in tick) a.same ∙ unspent) (handler_agrees k.mode (with_errors k) agree) in
      in_turn has_worked_last tick t s (chooses k.mode s.part) a c
