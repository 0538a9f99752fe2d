-- The lines of each change of one process agree with it.
use Rattle.std.proofs.Common.{◌≡◌, ◌≢◌, ℕ, ℤ, Bool, true, false, List, [], ◌∷◌, Option, Some, None, inl, inr, refl, sym, ap, ◌∙◌, subst}
use Rattle.std.specs.Prelude.{◌⊎◌, slice_get, slice_set, if◌then◌else◌}
use Rattle.std.proofs.lemmas.Bool.{eq-eqb, false≢true}
use Rattle.std.proofs.lemmas.Option.{none-some, same_Some}
use Rattle.apex_types.specs.Runners.{Action, place_of}
use Rattle.apex_types.specs.declared.codes.ProcessState.{ProcessState}
use Rattle.apex_types.specs.declared.codes.ProcessState.TheVariants.{Dormant, Ready, Running, Waiting}
use Rattle.apex_types.specs.declared.codes.ReturnCode.{ReturnCode}
use Rattle.apex_types.specs.declared.event.EventKind.TheVariants as event
use Rattle.apex_types.specs.declared.event.Subject.{Subject}
use Rattle.apex_types.specs.declared.identity.Runner.{Runner}
use Rattle.apex_types.specs.declared.process.Due.{Due}
use Rattle.apex_types.specs.declared.process.ProcessStatus.{ProcessStatus}
use Rattle.apex_types.specs.declared.process.Wait.{Wait}
use Rattle.apex_types.specs.declared.process.Wait.TheVariants as wait
use Rattle.kernel_meaning.specs.Processes.{Processes, row_of, who_of, not_running, put_row, put_ready, put_unready, put_dormant, waiting_lines, wakes, waits, rests, rests_found, answers_wait, released_with, no_longer_waits, zeros_of_wait}
use Rattle.kernel_meaning.specs.Processes as processes
use Rattle.kernel_meaning.specs.Step.{Step, nothing, after}
use Rattle.kernel_laws.proofs.RecordChoice.{same_runner}
use Rattle.state_laws.specs.Told.{Told, is_same, is_it, preempted, has_worked, worker_or, moves_to, with_state, worker_by_lines, running_or, worked_in}
use Rattle.state_laws.specs.States.{who_runs}
use Rattle.state_laws.proofs.Agreement.{IsRunning, AgreesOn, Agrees, GoesTo, Goes, goes, runs_and_worked, works, either, each, at_each, still_named, same_runs}
use Rattle.state_laws.proofs.Subjects.{same_itself, not_same, runner_itself, same_place}

-- it is not the current runner
abbrev pub IsNotRunning : Processes → Runner → Type 0
IsNotRunning s p = s.running ≢ Some p

-- a runner that is not the current one stays out
pub still_out : (p : Runner) (o : Option Runner) → o ≢ Some p → not_running p o ≡ o
still_out p None n = refl
still_out p (Some q) n = by_test (processes.is_same p q) refl
  where
    by_test : (b : Bool) → processes.is_same p q ≡ b → (if b then None else Some q) ≡ Some q
    by_test true e = absurd (n (ap Some (sym (same_runner p q e))))
    by_test false e = refl

pub runs_or_not : (p : Runner) (o : Option Runner) → (o ≡ Some p) ⊎ (o ≢ Some p)
runs_or_not p None = inr (none-some p)
runs_or_not p (Some q) = by_test (processes.is_same p q) refl
  where
    by_test : (b : Bool) → processes.is_same p q ≡ b → (Some q ≡ Some p) ⊎ (Some q ≢ Some p)
    by_test true e = inl (ap Some (sym (same_runner p q e)))
    by_test false e = inr (λ k. false≢true (sym e ∙ ap (processes.is_same p) (same_Some q p k) ∙ runner_itself p))

-- whoever leaves RUNNING by its work in a tick spends that tick
pub same_worker : (tick : ℕ) (o : Option Subject) (worked : Option (ℕ × Subject)) → running_or None (worked_in tick (worker_or tick worked o)) ≡ running_or o (worked_in tick worked)
same_worker tick None worked = refl
same_worker tick (Some who) worked = ap (λ (b : Bool). if b then Some who else None) (eq-eqb tick tick refl)

is_waiting : ProcessState → Bool
is_waiting Waiting = true
is_waiting _ = false

pub is_not_waiting : Running ≢ Waiting
unfolding is_waiting
is_not_waiting e = false≢true (ap is_waiting e)

module _ (tick : ℕ) (t : Told) (s : Processes) (h : Agrees t s) where
  -- ---- without lines

  pub here : {A : Type 0} (of : Told → A) (actions : List Action) → Goes of tick t (record { part = s; lines = []; actions = actions })
  here of actions = record { agrees = h; mode = refl; same = refl }

  module _ (p : Runner) (r x : ProcessStatus) (there : row_of s p ≡ Some r) (who : x.who ≡ r.who) where
    abbrev rows : List ProcessStatus
    rows = slice_set s.rows (place_of p) x

    states_kept : x.state ≡ r.state → (i : ℕ) (y : ProcessStatus) → slice_get rows i ≡ Some y → t.state y.who ≡ y.state
    states_kept state = each s.rows (place_of p) r x there (λ i y. t.state y.who ≡ y.state) (ap t.state who ∙ h.states (place_of p) r there ∙ sym state) (λ i y n e. h.states i y e)

    runs_set : (IsRunning p (Some r) → IsRunning p (Some x)) → (q : Runner) → s.running ≡ Some q → IsRunning q (slice_get rows (place_of q))
    runs_set keeps q e =
        at_each s.rows (place_of p) r x there (IsRunning q) (place_of q)
        (λ is. let own = same_place p q is in subst (λ (o : Runner). IsRunning o (Some x)) own (keeps (subst (IsRunning p) there (h.runs p (e ∙ ap Some (sym own))))))
        (λ n. h.runs q e)

    runs_others : IsNotRunning s p → (q : Runner) → s.running ≡ Some q → IsRunning q (slice_get rows (place_of q))
    runs_others n q e = at_each s.rows (place_of p) r x there (IsRunning q) (place_of q) (λ is. absurd (n (e ∙ ap Some (sym (same_place p q is))))) (λ m. h.runs q e)

    -- another record in the same state
    pub kept : x.state ≡ r.state → (IsRunning p (Some r) → IsRunning p (Some x)) → AgreesOn t rows s.running
    kept state keeps = record {
      named = still_named s.rows (place_of p) r x there who h.named;
      states = states_kept state;
      running = h.running ∙ sym (same_runs s.rows (place_of p) r x there who s.running);
      runs = runs_set keeps;
    }

    -- of a runner that is not the current one
    pub kept_out : x.state ≡ r.state → IsNotRunning s p → AgreesOn t rows s.running
    kept_out state n = record {
      named = still_named s.rows (place_of p) r x there who h.named;
      states = states_kept state;
      running = h.running ∙ sym (same_runs s.rows (place_of p) r x there who s.running);
      runs = runs_others n;
    }

    -- ---- another state

    -- what is told with the new state
    pub states_set : (v : Subject → ProcessState) → ((w : Subject) → v w ≡ (if is_same w x.who then x.state else t.state w)) → (i : ℕ) (y : ProcessStatus) → slice_get rows i ≡ Some y → v y.who ≡ y.state
    states_set v is =
        each s.rows (place_of p) r x there (λ i y. v y.who ≡ y.state) (is x.who ∙ ap (λ (b : Bool). if b then x.state else t.state x.who) (same_itself x.who))
        (λ i y n e. is y.who ∙ ap (λ (b : Bool). if b then x.state else t.state y.who) (not_same y.who x.who (λ k. n (sym (h.named.apart i (place_of p) y r e there (k ∙ who))))) ∙ h.states i y e)

    -- the runner told to be RUNNING is another one
    is_out : IsNotRunning s p → is_it x.who t.running ≡ false
    is_out n = ap (is_it x.who) h.running ∙ by_runner s.running refl
      where
        by_row : (q : Runner) → place_of p ≢ place_of q → (o : Option ProcessStatus) → row_of s q ≡ o → IsRunning q o → is_same x.who (who_of o) ≡ false
        by_row q m None e k = absurd k
        by_row q m (Some y) e k = not_same x.who y.who (λ same. m (h.named.apart (place_of p) (place_of q) r y there e (sym who ∙ same)))

        by_runner : (o : Option Runner) → s.running ≡ o → is_it x.who (who_runs s.rows o) ≡ false
        by_runner None e = refl
        by_runner (Some q) e = by_row q (λ is. n (e ∙ ap Some (sym (same_place p q is)))) (row_of s q) refl (h.runs q e)

    -- the one told to be RUNNING is this one
    pub is_in : s.running ≡ Some p → t.running ≡ Some x.who
    is_in e = h.running ∙ ap (who_runs s.rows) e ∙ ap Some (ap who_of there ∙ sym who)

    -- it becomes READY
    becomes_ready : x.state ≡ Ready → IsNotRunning s p → AgreesOn (with_state x.who Ready t) rows s.running
    becomes_ready state n = record {
      named = still_named s.rows (place_of p) r x there who h.named;
      states = states_set (with_state x.who Ready t).state (λ w. ap (λ (z : ProcessState). if is_same w x.who then z else t.state w) (sym state));
      running = h.running ∙ sym (same_runs s.rows (place_of p) r x there who s.running);
      runs = runs_others n;
    }

    pub readies : x.state ≡ Ready → IsNotRunning s p → GoesTo runs_and_worked t (with_state x.who Ready (moves_to tick t x.who Ready)) rows s.running
    readies state n =
        let e : moves_to tick t x.who Ready ≡ t = ap (λ (b : Bool). if b then preempted t else t) (is_out n) in
        subst (λ (v : Told). GoesTo runs_and_worked t (with_state x.who Ready v) rows s.running) (sym e) (record { agrees = becomes_ready state n; mode = refl; same = refl })

    -- it no longer runs
    abbrev left : ProcessState → Told
    left state = with_state x.who state (if is_it x.who t.running then has_worked tick t else t)

    left_running : (state : ProcessState) → x.state ≡ state → s.running ≡ Some p → GoesTo (worker_by_lines tick) t (left state) rows (not_running p s.running)
    left_running state is e =
        let was = is_in e in
        let found : is_it x.who t.running ≡ true = ap (is_it x.who) was ∙ same_itself x.who in
        let none : not_running p s.running ≡ None = ap (not_running p) e ∙ ap (λ (b : Bool). if b then None else Some p) (runner_itself p) in
        subst (λ (o : Option Runner). GoesTo (worker_by_lines tick) t (left state) rows o) (sym none)
        (subst (λ (b : Bool). GoesTo (worker_by_lines tick) t (with_state x.who state (if b then has_worked tick t else t)) rows None) (sym found)
        (record {
          agrees = record {
            named = still_named s.rows (place_of p) r x there who h.named;
            states = states_set (with_state x.who state t).state (λ w. ap (λ (z : ProcessState). if is_same w x.who then z else t.state w) (sym is));
            running = refl;
            runs = λ q k. absurd (none-some q k);
          };
          mode = refl;
          same = same_worker tick t.running t.worked;
        }))

    left_out : (state : ProcessState) → x.state ≡ state → IsNotRunning s p → GoesTo (worker_by_lines tick) t (left state) rows (not_running p s.running)
    left_out state is n =
        subst (λ (o : Option Runner). GoesTo (worker_by_lines tick) t (left state) rows o) (sym (still_out p s.running n))
        (subst (λ (b : Bool). GoesTo (worker_by_lines tick) t (with_state x.who state (if b then has_worked tick t else t)) rows s.running) (sym (is_out n))
        (record {
          agrees = record {
            named = still_named s.rows (place_of p) r x there who h.named;
            states = states_set (with_state x.who state t).state (λ w. ap (λ (z : ProcessState). if is_same w x.who then z else t.state w) (sym is));
            running = h.running ∙ sym (same_runs s.rows (place_of p) r x there who s.running);
            runs = runs_others n;
          };
          mode = refl;
          same = refl;
        }))

    pub leaves : (state : ProcessState) → x.state ≡ state → GoesTo (worker_by_lines tick) t (left state) rows (not_running p s.running)
    leaves state is = by_runner (runs_or_not p s.running)
      where
        by_runner : (s.running ≡ Some p) ⊎ IsNotRunning s p → GoesTo (worker_by_lines tick) t (left state) rows (not_running p s.running)
        by_runner (inl e) = left_running state is e
        by_runner (inr n) = left_out state is n

    -- without a line
    pub stays_out : x.state ≡ r.state → IsNotRunning s p → GoesTo runs_and_worked t t rows (not_running p s.running)
    stays_out state n = subst (λ (o : Option Runner). GoesTo runs_and_worked t t rows o) (sym (still_out p s.running n)) (record { agrees = kept_out state n; mode = refl; same = refl })

  -- ---- the current runner is RUNNING

  pub out_if : (p : Runner) (r : ProcessStatus) → row_of s p ≡ Some r → (IsRunning p (Some r) → ⊥) → IsNotRunning s p
  out_if p r there never e = never (subst (IsRunning p) there (h.runs p e))

  pub out_by_state : (p : Runner) (r : ProcessStatus) → row_of s p ≡ Some r → r.state ≢ Running → IsNotRunning s p
  out_by_state p r there never = out_if p r there (λ k. never k.0)

  -- ---- a process becomes ready, waits, or is dormant

  pub wakes_goes : (p : Runner) (r x : ProcessStatus) → row_of s p ≡ Some r → x.who ≡ r.who → x.state ≡ r.state → IsNotRunning s p → Goes runs_and_worked tick t (wakes s p x)
  wakes_goes p r x there who state n =
      either runs_and_worked tick t x.suspended _ _ (goes runs_and_worked tick t _ (stays_out p r (record x { wait = wait.Nothing; due = None }) there who state n))
      (goes runs_and_worked tick t _ (readies p r (record x { state = Ready; wait = wait.Nothing; due = None }) there who refl n))

  pub waits_goes : (p : Runner) (r x : ProcessStatus) (reason : Wait) (due : Option Due) → row_of s p ≡ Some r → x.who ≡ r.who → x.state ≡ r.state → Goes (worker_by_lines tick) tick t (waits s p x reason due)
  waits_goes p r x reason due there who state = by_state x.state refl
    where
      y : ProcessStatus
      y = record x { state = Waiting; wait = reason; due = due }

      by_state : (state : ProcessState) → x.state ≡ state → Goes (worker_by_lines tick) tick t (record { part = put_unready s p y; lines = waiting_lines x.who state; actions = [] })
      by_state Dormant e = goes (worker_by_lines tick) tick t _ (leaves p r y there who Waiting refl)
      by_state Ready e = goes (worker_by_lines tick) tick t _ (leaves p r y there who Waiting refl)
      by_state Running e = goes (worker_by_lines tick) tick t _ (leaves p r y there who Waiting refl)
      by_state Waiting e =
          let k = stays_out p r y there who (sym e ∙ state) (out_by_state p r there (λ i. is_not_waiting (sym i ∙ sym state ∙ e))) in
          works tick t (nothing (put_unready s p y)) (record { agrees = k.agrees; mode = k.mode; same = k.same })

  pub rests_goes : (p : Runner) (r : ProcessStatus) → row_of s p ≡ Some r → Goes (worker_by_lines tick) tick t (rests s p r)
  rests_goes p r there = goes (worker_by_lines tick) tick t _ (leaves p r (record r { state = Dormant; suspended = false; wait = wait.Nothing; due = None; deadline = None }) there refl Dormant refl)

  pub rests_found_goes : (p : Runner) → Goes (worker_by_lines tick) tick t (rests_found s p (row_of s p))
  rests_found_goes p = by_row (row_of s p) refl
    where
      by_row : (o : Option ProcessStatus) → row_of s p ≡ o → Goes (worker_by_lines tick) tick t (rests_found s p o)
      by_row None e = here (worker_by_lines tick) []
      by_row (Some r) e = rests_goes p r e

  -- ---- the end of a wait

  pub released_with_goes : (p : Runner) (r x : ProcessStatus) (c : ReturnCode) (outputs : List ℤ) → row_of s p ≡ Some r → x.who ≡ r.who → x.state ≡ r.state → IsNotRunning s p
      → Goes runs_and_worked tick t (released_with s p x c outputs)
  released_with_goes p r x c outputs there who state n = by_wait x.wait
    where
      u : Step Processes
      u = wakes (no_longer_waits s p) p x

      woken : Goes runs_and_worked tick t u
      woken =
          either runs_and_worked tick t x.suspended _ _ (goes runs_and_worked tick t _ (stays_out p r (record x { wait = wait.Nothing; due = None }) there who state n))
          (goes runs_and_worked tick t _ (readies p r (record x { state = Ready; wait = wait.Nothing; due = None }) there who refl n))

      by_wait : (w : Wait) → Goes runs_and_worked tick t (after (answers_wait s p x c outputs w) u)
      by_wait wait.Nothing = record { agrees = woken.agrees; mode = woken.mode; same = woken.same }
      by_wait (wait.NormalStart delay) = record { agrees = woken.agrees; mode = woken.mode; same = woken.same }
      by_wait wait.FirstRelease = record { agrees = woken.agrees; mode = woken.mode; same = woken.same }
      by_wait (wait.Service v) = record { agrees = woken.agrees; mode = woken.mode; same = woken.same }
      by_wait (wait.Object v array) = record { agrees = woken.agrees; mode = woken.mode; same = woken.same }

-- ---- who stays out

-- whoever did not run does not run
abbrev pub StaysOut : Processes → Processes → Type 0
StaysOut s u = (q : Runner) → IsNotRunning s q → IsNotRunning u q

pub not_running_out : (p : Runner) (o : Option Runner) (q : Runner) → o ≢ Some q → not_running p o ≢ Some q
not_running_out p None q n = λ e. none-some q e
not_running_out p (Some z) q n = by_test (processes.is_same p z)
  where
    by_test : (b : Bool) → (if b then None else Some z) ≢ Some q
    by_test true = λ e. none-some q e
    by_test false = n

pub wakes_out : (s : Processes) (p : Runner) (x : ProcessStatus) → StaysOut s (wakes s p x).part
wakes_out s p x q n = by_test x.suspended
  where
    by_test : (b : Bool) → IsNotRunning (if b then nothing (put_unready s p (record x { wait = wait.Nothing; due = None })) else record { part = put_ready s p (record x { state = Ready; wait = wait.Nothing; due = None }); lines = event.State x.who Ready ∷ []; actions = [] }).part q
    by_test true = not_running_out p s.running q n
    by_test false = n
