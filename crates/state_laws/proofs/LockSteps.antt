-- Whoever holds the preemption lock by the lines holds it in the kernel: the changes of one process.
use Rattle.std.proofs.Common.{◌≡◌, ◌≢◌, ℕ, ℤ, Bool, true, false, List, [], ◌∷◌, ◌++◌, Option, Some, None, refl, sym, ap, ◌∙◌, subst}
use Rattle.std.specs.Prelude.{slice_get, slice_set, if◌then◌else◌, is_some}
use Rattle.std.proofs.lemmas.Bool.{false≢true}
use Rattle.apex_types.specs.Runners.{place_of}
use Rattle.apex_types.specs.declared.codes.ProcessState.{ProcessState}
use Rattle.apex_types.specs.declared.codes.ProcessState.TheVariants.{Dormant, Ready, Running, Waiting}
use Rattle.apex_types.specs.declared.codes.ReturnCode.{ReturnCode}
use Rattle.apex_types.specs.declared.event.EventKind.{EventKind}
use Rattle.apex_types.specs.declared.event.Subject.{Subject}
use Rattle.apex_types.specs.declared.identity.Runner.{Runner}
use Rattle.apex_types.specs.declared.identity.Runner.TheVariants as runner
use Rattle.apex_types.specs.declared.process.Due.{Due}
use Rattle.apex_types.specs.declared.process.Lock.{Lock}
use Rattle.apex_types.specs.declared.process.Lock.TheVariants as lock
use Rattle.apex_types.specs.declared.process.ProcessStatus.{ProcessStatus}
use Rattle.apex_types.specs.declared.process.Wait.{Wait}
use Rattle.apex_types.specs.declared.process.Wait.TheVariants as wait
use Rattle.apex_types.specs.declared.service.Service.{Service}
use Rattle.apex_types.specs.declared.service.Service.TheVariants as service
use Rattle.kernel_laws.proofs.RecordChoice.{same_runner}
use Rattle.kernel_meaning.specs.Processes.{Processes, row_of, who_of, subject, answers, answers_wait, no_longer_waits, put_dormant, put_row, put_ready, put_unready, released_with, rests, rests_found, waiting_lines, waits, wakes, without_holder}
use Rattle.kernel_meaning.specs.Processes as processes
use Rattle.kernel_meaning.specs.Step.{Step, nothing, after}
use Rattle.state_laws.specs.Locks.{Held, held_by, locks, returns, without}
use Rattle.state_laws.specs.Told.{is_same}
use Rattle.state_laws.proofs.Agreement.{AreDistinct, at_each, each, still_named}
use Rattle.state_laws.proofs.Subjects.{not_same, runner_itself, same_itself, same_place}

-- ---- lines of one partition

abbrev pub all_lock : Option Held → List EventKind → Option Held
all_lock o [] = o
all_lock o (k ∷ ks) = all_lock (locks o k) ks

pub lock_both : (o : Option Held) (a b : List EventKind) → all_lock o (a ++ b) ≡ all_lock (all_lock o a) b
lock_both o [] b = refl
lock_both o (k ∷ a) b = lock_both (locks o k) a b

-- ---- services that return something of the lock

abbrev pub is_on_lock : Service → Bool
is_on_lock service.LockPreemption = true
is_on_lock service.UnlockPreemption = true
is_on_lock _ = false

-- nobody waits in them
abbrev pub waits_on_lock : Wait → Bool
waits_on_lock (wait.Service v) = is_on_lock v
waits_on_lock (wait.Object v array) = is_on_lock v
waits_on_lock _ = false

-- all others leave it
pub others_leave : (who : Subject) (v : Service) (c : ReturnCode) (o : Option Held) → is_on_lock v ≡ false → returns who v c o ≡ o
others_leave who service.LockPreemption c o e = absurd (false≢true (sym e))
others_leave who service.UnlockPreemption c o e = absurd (false≢true (sym e))
others_leave who _ c o e = refl

-- ---- the agreement

-- the holder has a record
abbrev pub HasHolder : List ProcessStatus → Lock → Type 0
HasHolder rows lock.Free = Unit {0}
HasHolder rows (lock.Held level p) = is_some (slice_get rows (place_of (runner.Process p))) ≡ true

-- Each record has a subject of its own, and none waits in a service on the lock. Whoever is told to hold the lock is its holder.
pub record Fits (o : Option Held) (rows : List ProcessStatus) (l : Lock) : Type 0 where
  pub named : AreDistinct rows
  pub waits : (i : ℕ) (r : ProcessStatus) → slice_get rows i ≡ Some r → waits_on_lock r.wait ≡ false
  pub holder : HasHolder rows l
  pub held : o ≡ held_by rows l

abbrev pub FitsIn : Option Held → Processes → Type 0
FitsIn o s = Fits o s.rows s.lock

-- so it is after a step, with its lines
pub record LockGoes (o : Option Held) (s : Step Processes) : Type 0 where
  pub fits : FitsIn (all_lock o s.lines) s.part

module _ (o : Option Held) where
  pub lock_in_turn : (s u : Step Processes) → LockGoes o s → LockGoes (all_lock o s.lines) u → LockGoes o (after s u)
  lock_in_turn s u h k = record { fits = subst (λ (x : Option Held). FitsIn x u.part) (sym (lock_both o s.lines u.lines)) k.fits }

  pub lock_either : (b : Bool) (s u : Step Processes) → LockGoes o s → LockGoes o u → LockGoes o (if b then s else u)
  lock_either true s u h k = h
  lock_either false s u h k = k

  pub lock_passed : (b : Bool) (s u : Step Processes) → LockGoes o s → (b ≡ false → LockGoes o u) → LockGoes o (if b then s else u)
  lock_passed true s u h k = h
  lock_passed false s u h k = k refl

-- ---- the record at a place is replaced

module _ (o : Option Held) (s : Processes) (h : FitsIn o s) where
  pub lock_here : LockGoes o (nothing s)
  lock_here = record { fits = h }

  module _ (p : Runner) (r x : ProcessStatus) (there : row_of s p ≡ Some r) (who : x.who ≡ r.who) where
    abbrev rows : List ProcessStatus
    rows = slice_set s.rows (place_of p) x

    who_at : (i : ℕ) → who_of (slice_get rows i) ≡ who_of (slice_get s.rows i)
    who_at i =
        at_each s.rows (place_of p) r x there (λ (y : Option ProcessStatus). who_of y ≡ who_of (slice_get s.rows i)) i
        (λ is. who ∙ sym (ap who_of (subst (λ (j : ℕ). slice_get s.rows j ≡ Some r) is there))) (λ n. refl)

    some_at : (i : ℕ) → is_some (slice_get s.rows i) ≡ true → is_some (slice_get rows i) ≡ true
    some_at i e = at_each s.rows (place_of p) r x there (λ (y : Option ProcessStatus). is_some y ≡ true) i (λ is. refl) (λ n. e)

    same_held : (l : Lock) → held_by rows l ≡ held_by s.rows l
    same_held lock.Free = refl
    same_held (lock.Held level q) = ap (λ (w : Subject). Some (record { holder = w; level = level })) (who_at (place_of (runner.Process q)))

    still_there : (l : Lock) → HasHolder s.rows l → HasHolder rows l
    still_there lock.Free g = g
    still_there (lock.Held level q) g = some_at (place_of (runner.Process q)) g

    module _ (free : waits_on_lock x.wait ≡ false) where
      none_waits : (i : ℕ) (y : ProcessStatus) → slice_get rows i ≡ Some y → waits_on_lock y.wait ≡ false
      none_waits = each s.rows (place_of p) r x there (λ i y. waits_on_lock y.wait ≡ false) free (λ i y n e. h.waits i y e)

      pub lock_set : Fits o rows s.lock
      lock_set = record {
        named = still_named s.rows (place_of p) r x there who h.named;
        waits = none_waits;
        holder = still_there s.lock h.holder;
        held = h.held ∙ sym (same_held s.lock);
      }

      -- it no longer holds the lock
      holder_left : (l : Lock) → HasHolder s.rows l → HasHolder rows (without_holder p l)
      holder_left lock.Free g = tt
      holder_left (lock.Held level q) g = by_test (processes.is_same p (runner.Process q))
        where
          by_test : (b : Bool) → HasHolder rows (if b then lock.Free else lock.Held level q)
          by_test true = tt
          by_test false = some_at (place_of (runner.Process q)) g

      held_left : (l : Lock) → HasHolder s.rows l → without x.who (held_by s.rows l) ≡ held_by rows (without_holder p l)
      held_left lock.Free g = refl
      held_left (lock.Held level q) g = by_test (processes.is_same p (runner.Process q)) refl
        where
          holder : Subject
          holder = who_of (row_of s (runner.Process q))

          old : Option Held
          old = Some (record { holder = holder; level = level })

          by_row : place_of p ≢ place_of (runner.Process q) → (y : Option ProcessStatus) → row_of s (runner.Process q) ≡ y → is_some y ≡ true → is_same x.who (who_of y) ≡ false
          by_row n None e f = absurd (false≢true f)
          by_row n (Some y) e f = not_same x.who y.who (λ same. n (h.named.apart (place_of p) (place_of (runner.Process q)) r y there e (sym who ∙ same)))

          by_test : (b : Bool) → processes.is_same p (runner.Process q) ≡ b → (if is_same x.who holder then None else old) ≡ held_by rows (if b then lock.Free else lock.Held level q)
          by_test true e =
              let is : p ≡ runner.Process q = same_runner p (runner.Process q) e in
              let own : holder ≡ x.who = ap (λ (i : Runner). who_of (row_of s i)) (sym is) ∙ ap who_of there ∙ sym who in
              ap (λ (w : Subject). if is_same x.who w then None else old) own ∙ ap (λ (b : Bool). if b then None else old) (same_itself x.who)
          by_test false e =
              let n : place_of p ≢ place_of (runner.Process q) = λ is. false≢true (sym e ∙ ap (λ (i : Runner). processes.is_same p i) (sym (same_place p (runner.Process q) is)) ∙ runner_itself p) in
              ap (λ (b : Bool). if b then None else old) (by_row n (row_of s (runner.Process q)) refl g) ∙ sym (same_held (lock.Held level q))

      pub lock_left : Fits (without x.who o) rows (without_holder p s.lock)
      lock_left = record {
        named = still_named s.rows (place_of p) r x there who h.named;
        waits = none_waits;
        holder = holder_left s.lock h.holder;
        held = ap (without x.who) h.held ∙ held_left s.lock h.holder;
      }

  -- ---- a process becomes ready, waits, or is dormant

  pub lock_wakes : (p : Runner) (r x : ProcessStatus) → row_of s p ≡ Some r → x.who ≡ r.who → LockGoes o (wakes s p x)
  lock_wakes p r x there who =
      lock_either o x.suspended _ _ (record { fits = lock_set p r (record x { wait = wait.Nothing; due = None }) there who refl })
      (record { fits = lock_set p r (record x { state = Ready; wait = wait.Nothing; due = None }) there who refl })

  pub lock_waits : (p : Runner) (r x : ProcessStatus) (reason : Wait) (due : Option Due) → row_of s p ≡ Some r → x.who ≡ r.who → waits_on_lock reason ≡ false → LockGoes o (waits s p x reason due)
  lock_waits p r x reason due there who free = by_state x.state
    where
      set : FitsIn o (put_unready s p (record x { state = Waiting; wait = reason; due = due }))
      set = lock_set p r (record x { state = Waiting; wait = reason; due = due }) there who free

      by_state : (state : ProcessState) → LockGoes o (record { part = put_unready s p (record x { state = Waiting; wait = reason; due = due }); lines = waiting_lines x.who state; actions = [] })
      by_state Dormant = record { fits = set }
      by_state Ready = record { fits = set }
      by_state Running = record { fits = set }
      by_state Waiting = record { fits = set }

  pub lock_rests : (p : Runner) (r : ProcessStatus) → row_of s p ≡ Some r → LockGoes o (rests s p r)
  lock_rests p r there = record { fits = lock_left p r (record r { state = Dormant; suspended = false; wait = wait.Nothing; due = None; deadline = None }) there refl refl }

  pub lock_rests_found : (p : Runner) → LockGoes o (rests_found s p (row_of s p))
  lock_rests_found p = by_row (row_of s p) refl
    where
      by_row : (y : Option ProcessStatus) → row_of s p ≡ y → LockGoes o (rests_found s p y)
      by_row None e = lock_here
      by_row (Some r) e = lock_rests p r e

  -- ---- answers

  pub lock_answers : (p : Runner) (v : Service) (c : ReturnCode) (outputs : List ℤ) → is_on_lock v ≡ false → LockGoes o (answers s p v c outputs)
  lock_answers p v c outputs free = record { fits = subst (λ (x : Option Held). FitsIn x s) (sym (others_leave (subject s p) v c o free)) h }

  -- ---- the end of a wait

  pub lock_released_with : (p : Runner) (r x : ProcessStatus) (c : ReturnCode) (outputs : List ℤ) → row_of s p ≡ Some r → x.who ≡ r.who → waits_on_lock x.wait ≡ false → LockGoes o (released_with s p x c outputs)
  lock_released_with p r x c outputs there who free = by_wait x.wait free
    where
      u : Step Processes
      u = wakes (no_longer_waits s p) p x

      woken : LockGoes o u
      woken =
          lock_either o x.suspended _ _ (record { fits = lock_set p r (record x { wait = wait.Nothing; due = None }) there who refl })
          (record { fits = lock_set p r (record x { state = Ready; wait = wait.Nothing; due = None }) there who refl })

      returned : (v : Service) → is_on_lock v ≡ false → FitsIn (all_lock (returns x.who v c o) u.lines) u.part
      returned v e = subst (λ (y : Option Held). FitsIn (all_lock y u.lines) u.part) (sym (others_leave x.who v c o e)) woken.fits

      by_wait : (w : Wait) → waits_on_lock w ≡ false → LockGoes o (after (answers_wait s p x c outputs w) u)
      by_wait wait.Nothing e = record { fits = woken.fits }
      by_wait (wait.NormalStart delay) e = record { fits = woken.fits }
      by_wait wait.FirstRelease e = record { fits = woken.fits }
      by_wait (wait.Service v) e = record { fits = returned v e }
      by_wait (wait.Object v array) e = record { fits = returned v e }

  -- the record that was found there
  pub lock_released : (p : Runner) (r : ProcessStatus) (c : ReturnCode) (outputs : List ℤ) → row_of s p ≡ Some r → LockGoes o (released_with s p r c outputs)
  lock_released p r c outputs there = lock_released_with p r r c outputs there refl (h.waits (place_of p) r there)
