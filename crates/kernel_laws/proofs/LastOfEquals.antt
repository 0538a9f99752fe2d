-- The services that put a ready process behind all others of its priority.
use Rattle.kernel_laws.proofs.Prelude.{◌≡◌, ◌⊎◌, ◌&&◌, inl, inr, ℕ, zero, suc, ◌+◌, ◌<◌, ℤ, Bool, true, false, List, ◌∷◌, Option, Some, None, refl, sym, subst, ◌∙◌, arith, ltb-true, none-some, same_Some, if◌then◌else◌, nat_lt, not, pos, negsuc, place_of, At, Priority, ProcessIndex, ProcessState, Dormant, Ready, Running, Waiting, Runner, Entry, ProcessStatus, Service, ReturnCode, EventKind, Call, Asks, Nothing, Calls, Faults, Ends, Kernel, serves, treats_asked, IsBeforeEach, IsNumbered, entry, is_delay, is_ready, is_ready_state, is_priority, priority_of, set_priority, takes_priority, Processes, row_of, index, numbered, process_at, on, is_busy, is_dormant, is_unknown, answers, put_ready, put_row, timed_wait, delays, yields, waits_until, behind_equals, without, itself, process_of, may_asked, Step, after, nothing, record_at}
use Rattle.std.proofs.Common.{[], ap}
use Rattle.std.proofs.lemmas.Bool.{false≢true}
use Rattle.apex_types.specs.declared.codes.ReturnCode.TheVariants as code
use Rattle.apex_types.specs.declared.event.Subject.{Subject}
use Rattle.apex_types.specs.declared.identity.Runner.TheVariants as runner
use Rattle.apex_types.specs.declared.service.Call.TheVariants as call
use Rattle.apex_types.specs.declared.service.Service.TheVariants as service
use Rattle.kernel_meaning.specs.Processes.{has, refuses, waiting_lines}
use Rattle.kernel_laws.specs.Choice.{IsBefore, IsOrdered}
use Rattle.kernel_laws.specs.GoingLast.{HaveOtherPriorities, IsLastOfEquals, has_success}
use Rattle.kernel_laws.specs.Numbers.{goes_last_by}
use Rattle.kernel_laws.proofs.Choosing.{leaves}
use Rattle.kernel_laws.proofs.RecordRows.{IsCaller}
use Rattle.kernel_laws.proofs.Places.{get_set_same}

-- ---- lists

lower : (number : ℕ → ℕ) (x y e : Entry) → x.priority.0 < e.priority.0 → IsBefore number x y → y.priority.0 < e.priority.0
lower number x y e lt (inl less) = omega (arith, lt, less)
lower number x y e lt (inr same) = let equal = same.0 in omega (arith, lt, equal)

not_equal : (y e : Entry) → y.priority.0 < e.priority.0 → y.priority ≡ e.priority → ⊥
not_equal y e lt same = let equal : y.priority.0 ≡ e.priority.0 = ap (λ (v : Priority). v.0) same in omega (arith, lt, equal)

all_lower : (number : ℕ → ℕ) (x e : Entry) (es : List Entry) → x.priority.0 < e.priority.0 → IsBeforeEach number x es → HaveOtherPriorities e.priority es
all_lower number x e [] lt h = tt
all_lower number x e (y ∷ ys) lt h = (not_equal y e (lower number x y e lt h.0), all_lower number x e ys lt h.1)

-- in a list in order, what is put behind its equals is the last of them
pub behind_is_last : (number : ℕ → ℕ) (e : Entry) (es : List Entry) → IsOrdered number es → IsLastOfEquals e.process (behind_equals e es)
behind_is_last number e [] h = inl (refl, tt)
behind_is_last number e (x ∷ xs) h = by_test (nat_lt x.priority.0 e.priority.0) refl (behind_is_last number e xs h.1)
  where
    by_test : (b : Bool) → nat_lt x.priority.0 e.priority.0 ≡ b → IsLastOfEquals e.process (behind_equals e xs) → IsLastOfEquals e.process (if b then e ∷ x ∷ xs else x ∷ behind_equals e xs)
    by_test true t rest = let lt = ltb-true x.priority.0 e.priority.0 t in inl (refl, (not_equal x e lt, all_lower number x e xs lt h.0))
    by_test false t rest = inr rest

-- ---- steps

-- the list is the one before, or the process has left it
abbrev pub IsSameOrLeft : ProcessIndex → List Entry → List Entry → Type 0
IsSameOrLeft q before after = (after ≡ before) ⊎ (after ≡ without q.0 before)

-- It stands last if the service succeeds and it is READY or RUNNING; otherwise it does not go last.
pub record IsPutLast (q : ProcessIndex) (before : List Entry) (lines : List EventKind) (after : Processes) : Type 0 where
  pub goes : (has_success lines && is_ready (record_at after.rows q)) ≡ true → IsLastOfEquals q after.ready
  pub stays : (has_success lines && is_ready (record_at after.rows q)) ≡ false → IsSameOrLeft q before after.ready

abbrev Puts : ProcessIndex → Processes → Step Processes → Type 0
Puts q s t = IsPutLast q s.ready t.lines t.part

-- nothing succeeds
fails : (q : ProcessIndex) (s t : Processes) (lines : List EventKind) → has_success lines ≡ false → IsSameOrLeft q s.ready t.ready → IsPutLast q s.ready lines t
fails q s t lines none same = record {
  goes = λ e. absurd (false≢true (sym (ap (λ (b : Bool). b && is_ready (record_at t.rows q)) none) ∙ e));
  stays = λ e. same;
}

-- the process is not ready
rests : (q : ProcessIndex) (s t : Processes) (lines : List EventKind) → is_ready (record_at t.rows q) ≡ false → IsSameOrLeft q s.ready t.ready → IsPutLast q s.ready lines t
rests q s t lines none same = record { goes = λ e. absurd (false≢true (never (has_success lines) e)); stays = λ e. same }
  where
    never : (b : Bool) → (b && is_ready (record_at t.rows q)) ≡ true → false ≡ true
    never true e = sym none ∙ e
    never false e = e

either_last : (q : ProcessIndex) (s : Processes) (b : Bool) (t u : Step Processes) → Puts q s t → Puts q s u → Puts q s (if b then t else u)
either_last q s true t u j k = j
either_last q s false t u j k = k

module _ (number : ℕ → ℕ) (next : ℕ) (s : Processes) (h : IsNumbered number next s.ready) (p : Runner) where
  put_is_last : (i : ProcessIndex) (v : Priority) → IsLastOfEquals i (behind_equals (entry i v) (without i.0 s.ready))
  put_is_last i v = let rest = leaves number next i.0 s.ready h in behind_is_last number (entry i v) (without i.0 s.ready) rest.ordered

  refused : (q : ProcessIndex) (v : Service) (c : ReturnCode) → has_success (refuses s p v c).lines ≡ false → Puts q s (refuses s p v c)
  refused q v c none = fails q s s (refuses s p v c).lines none (inl refl)

  -- with this record, which is READY or RUNNING
  puts_last : (i : ProcessIndex) (x y : ProcessStatus) (v : Service) → row_of s (runner.Process i) ≡ Some x → is_ready_state y.state ≡ true
      → Puts i s (after (answers s p v code.NoError []) (nothing (put_ready s (runner.Process i) y)))
  puts_last i x y v there ready = record {
    goes = λ e. put_is_last i y.current_priority;
    stays = λ e. absurd (false≢true (sym e ∙ (ap is_ready (get_set_same s.rows (place_of (runner.Process i)) x y there) ∙ ready)));
  }

  -- ---- SET_PRIORITY

  takes_last : (v : Priority) (i : ProcessIndex) (o : Option ProcessStatus) → row_of s (runner.Process i) ≡ o
      → Puts i s (after (answers s p service.SetPriority code.NoError []) (on (numbered i o) s (takes_priority s v)))
  takes_last v i None there = rests i s s (answers s p service.SetPriority code.NoError []).lines (ap is_ready there) (inl refl)
  takes_last v i (Some x) there = by_test (is_ready_state x.state) refl
    where
      raised : ProcessStatus
      raised = record x { current_priority = v }

      by_test : (b : Bool) → is_ready_state x.state ≡ b
          → Puts i s (after (answers s p service.SetPriority code.NoError []) (nothing (if b then put_ready s (runner.Process i) raised else put_row s (runner.Process i) raised)))
      by_test true e = puts_last i x raised service.SetPriority there e
      by_test false e =
          rests i s (put_row s (runner.Process i) raised) (answers s p service.SetPriority code.NoError []).lines
          (ap is_ready (get_set_same s.rows (place_of (runner.Process i)) x raised there) ∙ e) (inl refl)

  numbered_last : (v : Priority) (id : ℤ) (q : ProcessIndex) → process_of id ≡ Some q.0 → Puts q s (after (answers s p service.SetPriority code.NoError []) (on (process_at s id) s (takes_priority s v)))
  numbered_last v (negsuc n) q e = absurd (none-some q.0 e)
  numbered_last v (pos zero) q e = absurd (none-some q.0 e)
  numbered_last v (pos (suc n)) q e =
      subst (λ (i : ProcessIndex). Puts i s (after (answers s p service.SetPriority code.NoError []) (on (process_at s (pos (suc n))) s (takes_priority s v)))) (ap index (same_Some n q.0 e))
      (takes_last v (index n) (row_of s (runner.Process (index n))) refl)

  set_priority_last : (id v : ℤ) (q : ProcessIndex) → process_of id ≡ Some q.0 → Puts q s (set_priority s p id v)
  set_priority_last id v q e =
      either_last q s (is_unknown s id) _ _ (refused q service.SetPriority code.InvalidParam refl)
      (either_last q s (not (is_priority v)) _ _ (refused q service.SetPriority code.InvalidParam refl)
      (either_last q s (has (process_at s id) is_dormant) _ _ (refused q service.SetPriority code.InvalidMode refl) (numbered_last (priority_of v) id q e)))

-- ---- TIMED_WAIT

pub silent : (who : Subject) (state : ProcessState) → has_success (waiting_lines who state) ≡ false
silent who Dormant = refl
silent who Ready = refl
silent who Running = refl
silent who Waiting = refl

module _ (number : ℕ → ℕ) (next : ℕ) (s : Processes) (h : IsNumbered number next s.ready) (i : ProcessIndex) (caller : is_ready (record_at s.rows i) ≡ true) where
  yields_last : (o : Option ProcessStatus) → row_of s (runner.Process i) ≡ o → Puts i s (after (answers s (runner.Process i) service.TimedWait code.NoError []) (yields s (runner.Process i) o))
  yields_last None there = absurd (false≢true (sym (ap is_ready there) ∙ caller))
  yields_last (Some x) there = puts_last number next s h (runner.Process i) i x x service.TimedWait there (sym (ap is_ready there) ∙ caller)

  until_last : (o : Option ProcessStatus) (tick : ℕ) → Puts i s (waits_until s (runner.Process i) o tick)
  until_last None tick = fails i s s [] refl (inl refl)
  until_last (Some x) tick = let t = waits_until s (runner.Process i) (Some x) tick in fails i s t.part t.lines (silent x.who x.state) (inr refl)

  delays_last : (at : At) (delay : ℤ) → Puts i s (delays at s (runner.Process i) delay)
  delays_last at (negsuc n) = fails i s s [] refl (inl refl)
  delays_last at (pos zero) = yields_last (row_of s (runner.Process i)) refl
  delays_last at (pos (suc n)) = until_last (row_of s (runner.Process i)) (at.now.0 + suc n)

  timed_wait_last : (at : At) (delay : ℤ) → Puts i s (timed_wait at s (runner.Process i) delay)
  timed_wait_last at delay =
      either_last i s (is_busy s (runner.Process i)) _ _ (refused number next s h (runner.Process i) i service.TimedWait code.InvalidMode refl)
      (either_last i s (not (is_delay delay)) _ _ (refused number next s h (runner.Process i) i service.TimedWait code.InvalidParam refl) (delays_last at delay))

-- ---- the requests of a process

abbrev pub PutsIn : ProcessIndex → Kernel → Step Kernel → Type 0
PutsIn q k t = IsPutLast q k.processes.ready t.lines t.part.processes

module _ (number : ℕ → ℕ) (next : ℕ) (at : At) (k : Kernel) (h : IsNumbered number next k.processes.ready) (q : ProcessIndex) where
  waits_last : (p : Runner) (delay : ℤ) (words : List ℤ) → IsCaller k.processes p → itself p ≡ Some q.0 → PutsIn q k (serves at k p (call.TimedWait delay) words)
  waits_last runner.Init delay words caller e = absurd (none-some q.0 e)
  waits_last runner.Handler delay words caller e = absurd (none-some q.0 e)
  waits_last (runner.Process i) delay words caller e =
      subst (λ (j : ProcessIndex). PutsIn j k (serves at k (runner.Process i) (call.TimedWait delay) words)) (ap index (same_Some i.0 q.0 e))
      (timed_wait_last number next k.processes h i (caller i refl) at delay)

  serves_last : (p : Runner) (c : Call) (words : List ℤ) → IsCaller k.processes p → goes_last_by p c ≡ Some q.0 → PutsIn q k (serves at k p c words)
  serves_last p (call.SetPriority id v) words caller e = set_priority_last number next k.processes h p id v q e
  serves_last p (call.TimedWait delay) words caller e = waits_last p delay words caller e
  serves_last p _ words caller e = absurd (none-some q.0 e)

  pub asked_last : (p : Runner) (a : Asks) (words : List ℤ) → IsCaller k.processes p → (may_asked p a).go_last ≡ Some q.0 → PutsIn q k (treats_asked at k p a words)
  asked_last p (Calls c) words caller e = serves_last p c words caller e
  asked_last p Nothing words caller e = absurd (none-some q.0 e)
  asked_last p (Faults f) words caller e = absurd (none-some q.0 e)
  asked_last p Ends words caller e = absurd (none-some q.0 e)
