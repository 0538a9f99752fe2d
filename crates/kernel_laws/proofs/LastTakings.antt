-- Who goes last takes a number for it, and no other does.
use Rattle.kernel_laws.proofs.Prelude.{◌≡◌, ◌&&◌, ℕ, zero, suc, ◌+◌, ℤ, Bool, true, false, List, ◌∷◌, ◌++◌, Option, Some, None, refl, sym, subst, ◌∙◌, none-some, if◌then◌else◌, not, pos, negsuc, place_of, Discipline, At, ListKey, Priority, ProcessIndex, Runner, ProcessStatus, ReturnCode, Service, AreAllowed, BeginsToWait, Goes, May, nobody, only_last, is_delay, is_ready, is_ready_state, is_priority, priority_of, set_priority, takes_priority, Processes, row_of, numbered, process_at, on, is_busy, is_dormant, is_unknown, answers, put_ready, put_row, timed_wait, delays, yields, waits_until, Step, after, nothing, record_at}
use Rattle.std.proofs.Common.{[], ap}
use Rattle.std.proofs.lemmas.Bool.{false≢true}
use Rattle.apex_types.specs.declared.codes.ReturnCode.TheVariants as code
use Rattle.apex_types.specs.declared.identity.Runner.TheVariants as runner
use Rattle.apex_types.specs.declared.service.Service.TheVariants as service
use Rattle.kernel_meaning.specs.Processes.{has, refuses}
use Rattle.kernel_laws.specs.GoingLast.{has_success}
use Rattle.kernel_laws.specs.Numbers.{Taking, BecomesReady, GoesLast}
use Rattle.kernel_laws.proofs.ExactTakings.{IsExact, exact_alone}
use Rattle.kernel_laws.proofs.LastOfEquals.{silent}
use Rattle.kernel_laws.proofs.NumberSteps.{Named, after_goes, answer_goes, nothing_goes, put_goes, refuse_goes, row_is_of, waits_goes}
use Rattle.kernel_laws.proofs.Places.{get_set_same}
use Rattle.kernel_laws.proofs.Primitives.{in_order_last, named_set}

-- ---- takings

-- what nobody needs a leave for, all may do
pub all_may : (may : May) (ts : List Taking) → AreAllowed nobody ts → AreAllowed may ts
all_may may [] h = tt
all_may may (BecomesReady p ∷ ts) h = (tt, all_may may ts h.1)
all_may may (GoesLast p ∷ ts) h = absurd (none-some p h.0)
all_may may (BeginsToWait p ∷ ts) h = absurd (none-some p h.0)

-- whether the service succeeds, and the process is READY or RUNNING
abbrev pub succeeds : ProcessIndex → Step Processes → Bool
succeeds q t = has_success t.lines && is_ready (record_at t.part.rows q)

module _ (d : ListKey → Discipline) (names : List (List ℕ)) where
  -- a step that continues the numbers, in which this process goes last exactly if it has to
  pub record Takes (q : ProcessIndex) (s : Processes) (t : Step Processes) : Type 0 where
    pub goes : Goes d names (only_last (Some q.0)) s t
    pub exact : IsExact (only_last (Some q.0)) t.lines t.part goes.takings

  -- the takings beside those that become ready
  abbrev others : ℕ → Bool → List Taking
  others q b = (if b then GoesLast q ∷ [] else []) ++ []

  nobody_takes : (q : ProcessIndex) (s : Processes) (t : Step Processes) → Goes d names nobody s t → succeeds q t ≡ false → Takes q s t
  nobody_takes q s t g e = record {
    goes = record { takings = g.takings; follows = g.follows; named = g.named; told = g.told; allowed = all_may (only_last (Some q.0)) g.takings g.allowed };
    exact = exact_alone (only_last (Some q.0)) t.lines t.part g.takings (ap (others q.0) (sym e)) g.allowed;
  }

  either_takes : (q : ProcessIndex) (s : Processes) (b : Bool) (t u : Step Processes) → Takes q s t → Takes q s u → Takes q s (if b then t else u)
  either_takes q s true t u h k = h
  either_takes q s false t u h k = k

  module _ (s : Processes) (h : Named d names s) (p : Runner) (i : ProcessIndex) where
    abbrev Takes_of : Step Processes → Type 0
    Takes_of t = Takes i s t

    refused : (v : Service) (c : ReturnCode) → has_success (refuses s p v c).lines ≡ false → Takes_of (refuses s p v c)
    refused v c none = nobody_takes i s (refuses s p v c) (refuse_goes d names nobody s p v h c) (ap (λ (b : Bool). b && is_ready (record_at s.rows i)) none)

    abbrev told : Service → Step Processes
    told v = answers s p v code.NoError []

    -- with this record, which is READY or RUNNING
    puts : (x y : ProcessStatus) (v : Service) → row_of s (runner.Process i) ≡ Some x → y.who ≡ x.who → is_ready_state y.state ≡ true → Takes_of (after (told v) (nothing (put_ready s (runner.Process i) y)))
    puts x y v there same ready = let so = ap is_ready (get_set_same s.rows (place_of (runner.Process i)) x y there) ∙ ready in record {
      goes = record {
        takings = GoesLast i.0 ∷ [];
        follows = λ n o. in_order_last d n (runner.Process i) y.current_priority s.ready s.queues o;
        named = named_set names s.rows (place_of (runner.Process i)) y h (row_is_of d names s (runner.Process i) x h there ∙ ap Some (sym same));
        told = refl;
        allowed = (refl, tt);
      };
      exact = ([], ap (others i.0) (sym so));
    }

    -- ---- SET_PRIORITY

    pub takes : (v : Priority) (o : Option ProcessStatus) → row_of s (runner.Process i) ≡ o → Takes_of (after (told service.SetPriority) (on (numbered i o) s (takes_priority s v)))
    takes v None there =
        nobody_takes i s _
        (after_goes d names nobody s (told service.SetPriority) (nothing s) (answer_goes d names nobody s p service.SetPriority code.NoError [] h) (λ k. nothing_goes d names nobody s k)) (ap is_ready there)
    takes v (Some x) there = by_test (is_ready_state x.state) refl
      where
        raised : ProcessStatus
        raised = record x { current_priority = v }

        by_test : (b : Bool) → is_ready_state x.state ≡ b → Takes_of (after (told service.SetPriority) (nothing (if b then put_ready s (runner.Process i) raised else put_row s (runner.Process i) raised)))
        by_test true e = puts x raised service.SetPriority there refl e
        by_test false e =
            nobody_takes i s _
            (after_goes d names nobody s (told service.SetPriority) _ (answer_goes d names nobody s p service.SetPriority code.NoError [] h)
            (λ k. put_goes d names nobody s (runner.Process i) raised k (row_is_of d names s (runner.Process i) x h there)))
            (ap is_ready (get_set_same s.rows (place_of (runner.Process i)) x raised there) ∙ e)

    pub sets : (v : ℤ) (o : Option (Runner × ProcessStatus)) → Takes_of (after (told service.SetPriority) (on o s (takes_priority s (priority_of v)))) → (id : ℤ) → process_at s id ≡ o → Takes_of (set_priority s p id v)
    sets v o k id e =
        either_takes i s (is_unknown s id) _ _ (refused service.SetPriority code.InvalidParam refl)
        (either_takes i s (not (is_priority v)) _ _ (refused service.SetPriority code.InvalidParam refl)
        (either_takes i s (has (process_at s id) is_dormant) _ _ (refused service.SetPriority code.InvalidMode refl)
        (subst (λ (f : Option (Runner × ProcessStatus)). Takes_of (after (told service.SetPriority) (on f s (takes_priority s (priority_of v))))) (sym e) k)))

  -- ---- TIMED_WAIT

  module _ (s : Processes) (h : Named d names s) (i : ProcessIndex) (caller : is_ready (record_at s.rows i) ≡ true) where
    abbrev Takes_itself : Step Processes → Type 0
    Takes_itself t = Takes i s t

    yields_takes : (o : Option ProcessStatus) → row_of s (runner.Process i) ≡ o → Takes_itself (after (answers s (runner.Process i) service.TimedWait code.NoError []) (yields s (runner.Process i) o))
    yields_takes None there = absurd (false≢true (sym (ap is_ready there) ∙ caller))
    yields_takes (Some x) there = puts s h (runner.Process i) i x x service.TimedWait there refl (sym (ap is_ready there) ∙ caller)

    until_takes : (o : Option ProcessStatus) (tick : ℕ) → row_of s (runner.Process i) ≡ o → Takes_itself (waits_until s (runner.Process i) o tick)
    until_takes None tick there = nobody_takes i s (nothing s) (nothing_goes d names nobody s h) refl
    until_takes (Some x) tick there =
        let t = waits_until s (runner.Process i) (Some x) tick in
        nobody_takes i s t (waits_goes d names nobody s (runner.Process i) x _ _ h (row_is_of d names s (runner.Process i) x h there))
        (ap (λ (b : Bool). b && is_ready (record_at t.part.rows i)) (silent x.who x.state))

    delays_takes : (at : At) (delay : ℤ) → Takes_itself (delays at s (runner.Process i) delay)
    delays_takes at (negsuc n) = nobody_takes i s (nothing s) (nothing_goes d names nobody s h) refl
    delays_takes at (pos zero) = yields_takes (row_of s (runner.Process i)) refl
    delays_takes at (pos (suc n)) = until_takes (row_of s (runner.Process i)) (at.now.0 + suc n) refl

    pub timed_wait_takes : (at : At) (delay : ℤ) → Takes_itself (timed_wait at s (runner.Process i) delay)
    timed_wait_takes at delay =
        either_takes i s (is_busy s (runner.Process i)) _ _ (refused s h (runner.Process i) i service.TimedWait code.InvalidMode refl)
        (either_takes i s (not (is_delay delay)) _ _ (refused s h (runner.Process i) i service.TimedWait code.InvalidParam refl) (delays_takes at delay))
