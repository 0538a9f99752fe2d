-- The lines of waits agree with them: who waits in a list does not run.
use Rattle.std.proofs.Common.{◌≡◌, ℕ, ℤ, pos, Bool, true, false, List, [], ◌∷◌, length, Option, Some, None, refl, sym, ◌∙◌, subst, arith, ◌<◌}
use Rattle.std.specs.Prelude.{◌+◌, if◌then◌else◌}
use Rattle.std.proofs.lemmas.Bool.{eq-eqb, false≢true}
use Rattle.std.proofs.lemmas.Option.{none-some, same_Some}
use Rattle.arrayvec.specs.ArrayVec.{ArrayVec}
use Rattle.apex_types.specs.declared.codes.ReturnCode.{ReturnCode}
use Rattle.apex_types.specs.declared.codes.ReturnCode.TheVariants as code
use Rattle.apex_types.specs.declared.identity.At.{At}
use Rattle.apex_types.specs.declared.identity.ListKey.{ListKey}
use Rattle.apex_types.specs.declared.identity.ProcessIndex.{ProcessIndex}
use Rattle.apex_types.specs.declared.identity.Runner.{Runner}
use Rattle.apex_types.specs.declared.identity.Runner.TheVariants as runner
use Rattle.apex_types.specs.declared.process.Entry.{Entry}
use Rattle.apex_types.specs.declared.process.ProcessStatus.{ProcessStatus}
use Rattle.apex_types.specs.declared.process.Waiting.{Waiting as Place}
use Rattle.engine_meaning.specs.Operators.{is_zero}
use Rattle.kernel_laws.specs.Agreement.{record_at}
use Rattle.kernel_laws.specs.Ready.{times_listed}
use Rattle.kernel_laws.specs.WhoWaits.{AreWaiting, WaitsIn}
use Rattle.kernel_laws.proofs.Records.{numbered_found}
use Rattle.kernel_meaning.specs.Processes.{Processes, row_of, numbered, released_with, no_longer_waits, zeros_of_wait, is_busy}
use Rattle.kernel_meaning.specs.Queues.{is_entry_of, list_at}
use Rattle.kernel_meaning.specs.Sharing.{blocks, enters, waits_at, found_first, waiting, gives, gives_found, gives_all, releases_found, releases_all}
use Rattle.state_laws.specs.Told.{Told, worker_by_lines}
use Rattle.state_laws.proofs.Agreement.{reads, Agrees, Goes, runs_and_worked, in_turn, either}
use Rattle.state_laws.proofs.Changes.{IsNotRunning, StaysOut, here, out_by_state, waits_goes, released_with_goes, wakes_out, is_not_waiting}

-- ---- what is found

-- what is found does not run, and has its own record
abbrev pub FindsOut : Processes → Option (Runner × ProcessStatus) → Type 0
FindsOut s o = (f : Runner × ProcessStatus) → o ≡ Some f → IsNotRunning s f.0 × (row_of s f.0 ≡ Some f.1)

-- none of these runs
abbrev pub AreOut : Processes → List Entry → Type 0
AreOut s [] = Unit {0}
AreOut s (e ∷ es) = IsNotRunning s (runner.Process e.process) × AreOut s es

pub out_later : (s u : Processes) → StaysOut s u → (es : List Entry) → AreOut s es → AreOut u es
out_later s u stays [] h = tt
out_later s u stays (e ∷ es) h = (stays (runner.Process e.process) h.0, out_later s u stays es h.1)

pub entry_out : (s : Processes) (p : ProcessIndex) → IsNotRunning s (runner.Process p) → FindsOut s (numbered p (row_of s (runner.Process p)))
entry_out s p out f e = (own (row_of s (runner.Process p)) e, numbered_found s p f e)
  where
    own : (o : Option ProcessStatus) → numbered p o ≡ Some f → IsNotRunning s f.0
    own None k = absurd (none-some f k)
    own (Some r) k = subst (λ (x : Runner × ProcessStatus). IsNotRunning s x.0) (same_Some (runner.Process p, r) f k) out

pub first_out : (s : Processes) (es : List Entry) → AreOut s es → FindsOut s (found_first s es)
first_out s [] h f e = absurd (none-some f e)
first_out s (x ∷ xs) h f e = entry_out s x.process h.0 f e

-- ---- the waiting lists

listed_out : (s : Processes) (es : List Entry) → ((p : ProcessIndex) → 0 < times_listed p.0 es → IsNotRunning s (runner.Process p)) → AreOut s es
listed_out s [] h = tt
listed_out s (e ∷ es) h = (h e.process (first (is_entry_of e.process.0 e) (eq-eqb e.process.0 e.process.0 refl)), listed_out s es (λ p n. h p (later (is_entry_of p.0 e) (times_listed p.0 es) n)))
  where
    first : (b : Bool) → b ≡ true → 0 < (if b then 1 else 0) + times_listed e.process.0 es
    first true k = omega arith
    first false k = absurd (false≢true k)

    later : (b : Bool) (n : ℕ) → 0 < n → 0 < (if b then 1 else 0) + n
    later true n k = omega arith
    later false n k = omega (arith, k)

-- whoever stands in a waiting list is WAITING
pub waiting_out : (t : Told) (s : Processes) → Agrees t s → AreWaiting s.rows s.queues → (k : ListKey) → AreOut s (waiting s k)
waiting_out t s h w k = listed_out s (list_at s.queues k) (λ p n. by_row p (record_at s.rows p) refl (w.waits k p n))
  where
    by_row : (p : ProcessIndex) (o : Option ProcessStatus) → record_at s.rows p ≡ o → WaitsIn k o → IsNotRunning s (runner.Process p)
    by_row p None e g = absurd g
    by_row p (Some r) e g = out_by_state 0 t s h (runner.Process p) r e (λ i. is_not_waiting (sym i ∙ g.0))

-- ---- releases

pub released_stays : (s : Processes) (p : Runner) (r : ProcessStatus) (c : ReturnCode) (outputs : List ℤ) → StaysOut s (released_with s p r c outputs).part
released_stays s p r c outputs = wakes_out (no_longer_waits s p) p r

found_stays : (s : Processes) (o : Option (Runner × ProcessStatus)) → StaysOut s (releases_found s o).part
found_stays s None q n = n
found_stays s (Some f) q n = released_stays s f.0 f.1 code.NoError (zeros_of_wait f.1.wait) q n

given_stays : (s : Processes) (o : Option (Runner × ProcessStatus)) (m : ArrayVec ℤ) → StaysOut s (gives_found s o m).part
given_stays s None m q n = n
given_stays s (Some f) m q n = released_stays s f.0 f.1 code.NoError (pos (length m.items) ∷ []) q n

module _ (tick : ℕ) where
  module _ (t : Told) (s : Processes) (h : Agrees t s) where
    pub released_goes : (o : Option (Runner × ProcessStatus)) → FindsOut s o → Goes runs_and_worked tick t (releases_found s o)
    released_goes None found = here tick t s h runs_and_worked []
    released_goes (Some f) found = let k = found f refl in released_with_goes tick t s h f.0 f.1 f.1 code.NoError (zeros_of_wait f.1.wait) k.1 refl refl k.0

    pub gives_goes : (p : Runner) (r : ProcessStatus) (m : ArrayVec ℤ) → row_of s p ≡ Some r → IsNotRunning s p → Goes runs_and_worked tick t (gives s p r m)
    gives_goes p r m there out = let k = released_with_goes tick t s h p r r code.NoError (pos (length m.items) ∷ []) there refl refl out in record { agrees = k.agrees; mode = k.mode; same = k.same }

    pub given_goes : (o : Option (Runner × ProcessStatus)) (m : ArrayVec ℤ) → FindsOut s o → Goes runs_and_worked tick t (gives_found s o m)
    given_goes None m found = here tick t s h runs_and_worked []
    given_goes (Some f) m found = let k = found f refl in gives_goes f.0 f.1 m k.1 k.0

    -- a caller that has to wait
    pub blocks_goes : (at : At) (p : Runner) (limit : ℤ) (w : Place) (m : ArrayVec ℤ) → Goes (worker_by_lines tick) tick t (blocks at s p limit w m)
    blocks_goes at p limit w m =
        either (worker_by_lines tick) tick t (is_zero limit) _ _ (record { agrees = h; mode = refl; same = refl })
        (either (worker_by_lines tick) tick t (is_busy s p) _ _ (record { agrees = h; mode = refl; same = refl }) (found p (row_of s p) refl))
      where
        found : (p : Runner) (o : Option ProcessStatus) → row_of s p ≡ o → Goes (worker_by_lines tick) tick t (waits_at at s p limit w m o)
        found p None e = here tick t s h (worker_by_lines tick) []
        found runner.Init (Some r) e = waits_goes tick t s h runner.Init r r _ _ e refl refl
        found runner.Handler (Some r) e = waits_goes tick t s h runner.Handler r r _ _ e refl refl
        found (runner.Process i) (Some r) e = waits_goes tick t (enters s (runner.Process i) w m r) h (runner.Process i) r r _ _ e refl refl

  pub releases_go : (es : List Entry) (t : Told) (s : Processes) → Agrees t s → AreOut s es → Goes runs_and_worked tick t (releases_all es s)
  releases_go [] t s h out = here tick t s h runs_and_worked []
  releases_go (e ∷ es) t s h out =
      let o = numbered e.process (row_of s (runner.Process e.process)) in
      let u = releases_found s o in
      let one = released_goes t s h o (entry_out s e.process out.0) in
      in_turn runs_and_worked tick t u (releases_all es u.part) one (releases_go es (reads tick t u.lines) u.part one.agrees (out_later s u.part (found_stays s o) es out.1))

  pub all_given_go : (es : List Entry) (m : ArrayVec ℤ) (t : Told) (s : Processes) → Agrees t s → AreOut s es → Goes runs_and_worked tick t (gives_all es m s)
  all_given_go [] m t s h out = here tick t s h runs_and_worked []
  all_given_go (e ∷ es) m t s h out =
      let o = numbered e.process (row_of s (runner.Process e.process)) in
      let u = gives_found s o m in
      let one = given_goes t s h o m (entry_out s e.process out.0) in
      in_turn runs_and_worked tick t u (gives_all es m u.part) one (all_given_go es m (reads tick t u.lines) u.part one.agrees (out_later s u.part (given_stays s o m) es out.1))
