-- One line more: what the windows count of a partition goes on as what is told of it.
use Rattle.std.proofs.Common.{◌≡◌, ◌≢◌, ◌<◌, ℕ, suc, Bool, true, false, List, Option, Some, None, refl, sym, ap, ◌∙◌, subst, arith}
use Rattle.std.specs.Prelude.{nat_lt, if◌then◌else◌, option_map, slice_get}
use Rattle.std.proofs.lemmas.Bool.{eq-eqb, ne_eqb, false≢true, ltb-true}
use Rattle.std.proofs.lemmas.Option.{none-some, same_Some, slice_get-map}
use Rattle.apex_types.specs.declared.codes.ErrorKind.{ErrorKind}
use Rattle.apex_types.specs.declared.codes.ErrorKind.TheVariants as error
use Rattle.apex_types.specs.declared.codes.Mode.{Mode}
use Rattle.apex_types.specs.declared.codes.Mode.TheVariants as mode
use Rattle.apex_types.specs.declared.codes.ModuleAction.TheVariants as reaction
use Rattle.apex_types.specs.declared.codes.PartitionAction.{PartitionAction}
use Rattle.apex_types.specs.declared.codes.PartitionAction.TheVariants as action
use Rattle.apex_types.specs.declared.codes.ProcessState.{ProcessState}
use Rattle.apex_types.specs.declared.codes.ProcessState.TheVariants as state
use Rattle.apex_types.specs.declared.codes.Response.{Response}
use Rattle.apex_types.specs.declared.codes.Response.TheVariants as response
use Rattle.apex_types.specs.declared.event.EventKind.{EventKind}
use Rattle.apex_types.specs.declared.event.EventKind.TheVariants as event
use Rattle.apex_types.specs.declared.event.Subject.{Subject}
use Rattle.apex_types.specs.declared.event.Subject.TheVariants.{Init, Handler, Process}
use Rattle.isolation.proofs.Steps.{IsApart}
use Rattle.engine_meaning.specs.Digits.{same}
use Rattle.state_laws.specs.Told.{Told, cleared, cleared_by, has_worked, is_ignored, is_it, is_same, preempted, said_by, says, says_module, worked_in, worker_or}
use Rattle.state_laws.proofs.Moves.{IsBefore}
use Rattle.state_laws.proofs.Subjects.{name_itself, same_name, same_subject}
use Rattle.trace_stays.specs.Clearing.{starts_by}
use Rattle.trace_windows.specs.Standings.{Standing, acted, cleared_if, is_running, is_same_runner, left_if, passed, passed_if, place_in, running_at, stopped, with_kind, with_module, with_own, with_place, with_running, without_running}
use Rattle.trace_windows.specs.Uses.{last_from}
use Rattle.trace_windows.specs.declared.owner.Owner.{Owner}
use Rattle.view_laws.proofs.Owners.{found, last_push, name_of, names_halted, names_in, names_set, none_stopped, own_place, running_halted, running_other, running_set}

-- ---- the same runner

same_as_told : (who x : Subject) → is_same_runner who x ≡ is_same who x
same_as_told Init Init = refl
same_as_told Init Handler = refl
same_as_told Init (Process b) = refl
same_as_told Handler Init = refl
same_as_told Handler Handler = refl
same_as_told Handler (Process b) = refl
same_as_told (Process a) Init = refl
same_as_told (Process a) Handler = refl
same_as_told (Process a) (Process b) = refl

runs_as_told : (who : Subject) (o : Option Subject) → is_running who o ≡ is_it who o
runs_as_told who None = refl
runs_as_told who (Some x) = same_as_told who x

it_runs : (who : Subject) (o : Option Subject) → is_it who o ≡ true → o ≡ Some who
it_runs who None e = absurd (false≢true e)
it_runs who (Some x) e = ap Some (sym (same_subject who x e))

pub not_in : (m n : ℕ) (w : Option (ℕ × Subject)) → m < n → IsBefore (suc m) w → None ≡ worked_in n w
not_in m n None l h = refl
not_in m n (Some w) l h = sym (ap (λ (b : Bool). if b then Some w.1 else None) (ne_eqb w.0 n (λ e. absurd (omega (arith, e, l, h)))))

worked_now : (tick : ℕ) (w : Option (ℕ × Subject)) (o : Option Subject) (who : Subject) → o ≡ Some who → worked_in tick (worker_or tick w o) ≡ Some who
worked_now tick w o who e = ap (λ (x : Option Subject). worked_in tick (worker_or tick w x)) e ∙ ap (λ (b : Bool). if b then Some who else None) (eq-eqb tick tick refl)

module _ (names : List (List ℕ)) (place : ℕ) where
  -- who runs in the partition at the place, and who was the last to stop in the tick of the last lines
  pub record Tells (s : Standing) (t : Told) : Type 0 where
    pub named : names_in s.owners ≡ names
    pub running : running_at place s.owners ≡ t.running
    pub last : last_from None place s.stopped ≡ worked_in s.now t.worked
    pub before : IsBefore (suc s.now) t.worked

  -- the ticks before another are over
  pub passed_tells : (n : ℕ) (s : Standing) (t : Told) → Tells s t → Tells (passed n s) t
  passed_tells n s t h = by_test (nat_lt s.now n) refl
    where
      by_test : (b : Bool) → nat_lt s.now n ≡ b → Tells (passed_if b n s) t
      by_test true e =
          let l = ltb-true s.now n e in
          record { named = h.named; running = h.running; last = none_stopped place ∙ not_in s.now n t.worked l h.before; before = later t.worked l h.before }
        where
          later : (w : Option (ℕ × Subject)) → s.now < n → IsBefore (suc s.now) w → IsBefore (suc n) w
          later None l b = tt
          later (Some w) l b = omega (arith, l, b)
      by_test false e = h

  -- ---- a line of another partition

  module _ (q : ℕ) (n : q ≢ place) (s : Standing) (t : Told) (h : Tells s t) where
    other_set : (r : Option Subject) → Tells (record s { owners = with_running q r s.owners }) t
    other_set r = record { named = names_set q r s.owners ∙ h.named; running = running_other q place r s.owners n ∙ h.running; last = h.last; before = h.before }

    other_stop : (o : Option Subject) → Tells (stopped q o s) t
    other_stop None = h
    other_stop (Some who) = record {
      named = names_set q None s.owners ∙ h.named;
      running = running_other q place None s.owners n ∙ h.running;
      last = last_push None place s.stopped (record { place = q; who = who }) ∙ ap (λ (b : Bool). if b then Some who else last_from None place s.stopped) (ne_eqb q place n) ∙ h.last;
      before = h.before;
    }

    other_left : (b : Bool) (next : ProcessState) (who : Subject) → Tells (left_if b next q who s) t
    other_left false next who = h
    other_left true state.Ready who = other_set None
    other_left true state.Running who = other_stop (Some who)
    other_left true state.Waiting who = other_stop (Some who)
    other_left true state.Dormant who = other_stop (Some who)

    other_cleared : (b : Bool) → Tells (cleared_if b q s) t
    other_cleared true = other_set None
    other_cleared false = h

    other_tells : (kind : EventKind) → Tells (with_own kind q s) t
    other_tells (event.State who state.Running) = other_set (Some who)
    other_tells (event.State who state.Ready) = other_left (is_running who (running_at q s.owners)) state.Ready who
    other_tells (event.State who state.Waiting) = other_left (is_running who (running_at q s.owners)) state.Waiting who
    other_tells (event.State who state.Dormant) = other_left (is_running who (running_at q s.owners)) state.Dormant who
    other_tells (event.Mode mode.Normal) = h
    other_tells (event.Mode mode.Idle) = other_stop (running_at q s.owners)
    other_tells (event.Mode mode.ColdStart) = other_stop (running_at q s.owners)
    other_tells (event.Mode mode.WarmStart) = other_stop (running_at q s.owners)
    other_tells (event.Error e who a) = other_cleared _
    other_tells (event.Return who service code) = h
    other_tells (event.Report who words) = h
    other_tells (event.Move port words) = h
    other_tells (event.Arrive port words) = h
    other_tells (event.Lost port words) = h
    other_tells (event.Out channel words) = h

  -- ---- a line of the partition

  module _ (s : Standing) (t : Told) (h : Tells s t) (o : Owner) (there : slice_get s.owners place ≡ Some o) where
    own_cleared : Tells (without_running place s) (preempted t)
    own_cleared = record { named = names_set place None s.owners ∙ h.named; running = running_set place None s.owners o there; last = h.last; before = h.before }

    own_stop : (who : Subject) → t.running ≡ Some who → Tells (stopped place (Some who) s) (has_worked s.now t)
    own_stop who e = record {
      named = names_set place None s.owners ∙ h.named;
      running = running_set place None s.owners o there;
      last = last_push None place s.stopped (record { place = place; who = who }) ∙ ap (λ (b : Bool). if b then Some who else last_from None place s.stopped) (eq-eqb place place refl) ∙ sym (worked_now s.now t.worked t.running who e);
      before = subst (λ (x : Option Subject). IsBefore (suc s.now) (worker_or s.now t.worked x)) (sym e) (omega arith);
    }

    -- any state but RUNNING
    own_left : (who : Subject) (next : ProcessState) (leaves : Told) → (is_it who t.running ≡ true → Tells (left_if true next place who s) leaves)
        → Tells (left_if (is_running who (running_at place s.owners)) next place who s) (if is_it who t.running then leaves else t)
    own_left who next leaves when =
        let is : is_running who (running_at place s.owners) ≡ is_it who t.running = ap (is_running who) h.running ∙ runs_as_told who t.running in
        subst (λ (b : Bool). Tells (left_if b next place who s) (if is_it who t.running then leaves else t)) (sym is) (by_test (is_it who t.running) refl)
      where
        by_test : (b : Bool) → is_it who t.running ≡ b → Tells (left_if b next place who s) (if b then leaves else t)
        by_test true e = when e
        by_test false e = h

    own_state : (who : Subject) (next : ProcessState) → Tells (with_own (event.State who next) place s) (says s.now t (event.State who next))
    own_state who state.Running = record { named = names_set place (Some who) s.owners ∙ h.named; running = running_set place (Some who) s.owners o there; last = h.last; before = h.before }
    own_state who state.Ready = let k = own_left who state.Ready (preempted t) (λ e. own_cleared) in record { named = k.named; running = k.running; last = k.last; before = k.before }
    own_state who state.Waiting = let k = own_left who state.Waiting (has_worked s.now t) (λ e. own_stop who (it_runs who t.running e)) in record { named = k.named; running = k.running; last = k.last; before = k.before }
    own_state who state.Dormant = let k = own_left who state.Dormant (has_worked s.now t) (λ e. own_stop who (it_runs who t.running e)) in record { named = k.named; running = k.running; last = k.last; before = k.before }

    -- any mode but NORMAL
    own_again : Tells (stopped place (running_at place s.owners) s) (has_worked s.now t)
    own_again = by_running (running_at place s.owners) refl
      where
        by_running : (r : Option Subject) → running_at place s.owners ≡ r → Tells (stopped place r s) (has_worked s.now t)
        by_running None e =
            let none : t.running ≡ None = sym h.running ∙ e in
            record {
              named = h.named;
              running = e;
              last = h.last ∙ sym (ap (λ (x : Option Subject). worked_in s.now (worker_or s.now t.worked x)) none);
              before = subst (λ (x : Option Subject). IsBefore (suc s.now) (worker_or s.now t.worked x)) (sym none) h.before;
            }
        by_running (Some who) e = own_stop who (sym h.running ∙ e)

    all_gone : Tells (without_running place s) (cleared t)
    all_gone = let k = own_cleared in record { named = k.named; running = k.running; last = k.last; before = k.before }

    own_outside : (a : PartitionAction) → Tells (cleared_if (starts_by a) place s) (if is_ignored a then t else cleared t)
    own_outside action.Ignore = h
    own_outside action.Idle = all_gone
    own_outside action.WarmStart = all_gone
    own_outside action.ColdStart = all_gone

    -- before the next start condition is another one
    own_before : (e : ErrorKind) (who : Option Subject) (a : PartitionAction) → Tells (with_own (event.Error e who (response.Partition a)) place s) (cleared_by t e a)
    own_before error.DeadlineMissed who a = own_outside a
    own_before error.HardwareFault who a = own_outside a
    own_before error.ApplicationError who a = h
    own_before error.NumericError who a = h
    own_before error.IllegalRequest who a = h
    own_before error.StackOverflow who a = h
    own_before error.MemoryViolation who a = h

    own_error : (e : ErrorKind) (who : Option Subject) (a : Response) → Tells (with_own (event.Error e who a) place s) (says s.now t (event.Error e who a))
    own_error e who response.Handler = h
    own_error e who (response.Module a) = h
    own_error e who (response.Partition a) = let k = own_before e who a in record { named = k.named; running = k.running; last = k.last; before = k.before }

    own_mode : (m : Mode) → Tells (with_own (event.Mode m) place s) (says s.now t (event.Mode m))
    own_mode mode.Normal = record { named = h.named; running = h.running; last = h.last; before = h.before }
    own_mode mode.Idle = record { named = own_again.named; running = own_again.running; last = own_again.last; before = own_again.before }
    own_mode mode.ColdStart = record { named = own_again.named; running = own_again.running; last = own_again.last; before = own_again.before }
    own_mode mode.WarmStart = record { named = own_again.named; running = own_again.running; last = own_again.last; before = own_again.before }

    own_tells : (kind : EventKind) → Tells (with_own kind place s) (says s.now t kind)
    own_tells (event.State who next) = own_state who next
    own_tells (event.Mode m) = own_mode m
    own_tells (event.Error e who a) = own_error e who a
    own_tells (event.Return who service code) = h
    own_tells (event.Report who words) = h
    own_tells (event.Move port words) = h
    own_tells (event.Arrive port words) = h
    own_tells (event.Lost port words) = h
    own_tells (event.Out channel words) = h

  -- ---- a line of the module

  acted_tells : (a : Response) (s : Standing) (t : Told) → (e : ErrorKind) (who : Option Subject) → Tells s t → Tells (acted a s) (says_module t (event.Error e who a))
  acted_tells response.Handler s t e who h = h
  acted_tells (response.Partition a) s t e who h = h
  acted_tells (response.Module reaction.Ignore) s t e who h = h
  acted_tells (response.Module reaction.Shutdown) s t e who h = record { named = h.named; running = h.running; last = h.last; before = h.before }
  acted_tells (response.Module reaction.Reset) s t e who h = record { named = names_halted s.owners ∙ h.named; running = running_halted place s.owners; last = h.last; before = h.before }

  pub module_tells : (kind : EventKind) (s : Standing) (t : Told) → Tells s t → Tells (with_module kind s) (says_module t kind)
  module_tells (event.Error e who a) s t h = acted_tells a s t e who h
  module_tells (event.State who next) s t h = h
  module_tells (event.Mode m) s t h = h
  module_tells (event.Return who service code) s t h = h
  module_tells (event.Report who words) s t h = h
  module_tells (event.Move port words) s t h = h
  module_tells (event.Arrive port words) s t h = h
  module_tells (event.Lost port words) s t h = h
  module_tells (event.Out channel words) s t h = h

  -- ---- any line

  -- of a partition whose name is another's than of the one at the place
  pub else_tells : (other : List ℕ) → (slice_get names place ≡ Some other → ⊥) → (kind : EventKind) (s : Standing) (t : Told) → Tells s t → Tells (with_kind (Some other) kind s) t
  else_tells other not kind s t h = by_place (place_in other s.owners) refl
    where
      by_place : (o : Option ℕ) → place_in other s.owners ≡ o → Tells (with_place kind o s) t
      by_place None e = h
      by_place (Some q) e = other_tells q (λ is. not (subst (λ (k : ℕ). slice_get names k ≡ Some other) is (subst (λ (ns : List (List ℕ)). slice_get ns q ≡ Some other) h.named (found other s.owners q e)))) s t h kind

  module _ (name : List ℕ) (apart : IsApart name place names) where
    owner_there : (s : Standing) (t : Told) → Tells s t → (o : Owner) × (slice_get s.owners place ≡ Some o)
    owner_there s t h = by_owner (slice_get s.owners place) refl
      where
        by_owner : (o : Option Owner) → slice_get s.owners place ≡ o → (x : Owner) × (slice_get s.owners place ≡ Some x)
        by_owner None e =
            absurd (none-some name (sym (slice_get-map name_of s.owners place ∙ ap (option_map name_of) e) ∙ ap (λ (ns : List (List ℕ)). slice_get ns place) h.named ∙ apart.here))
        by_owner (Some x) e = (x, e)

    pub kind_tells : (p : Option (List ℕ)) (kind : EventKind) (s : Standing) (t : Told) → Tells s t → Tells (with_kind p kind s) (said_by name t p s.now kind)
    kind_tells None kind s t h = module_tells kind s t h
    kind_tells (Some other) kind s t h = by_test (same name other) refl
      where
        by_test : (b : Bool) → same name other ≡ b → Tells (with_kind (Some other) kind s) (if b then says s.now t kind else t)
        by_test true e =
            let is = same_name name other e in
            let own = owner_there s t h in
            let here : place_in other s.owners ≡ Some place = ap (λ (n : List ℕ). place_in n s.owners) (sym is) ∙ own_place name place s.owners (subst (IsApart name place) (sym h.named) apart) in
            subst (λ (x : Option ℕ). Tells (with_place kind x s) (says s.now t kind)) (sym here) (own_tells s t h own.0 own.1 kind)
        by_test false e = else_tells other (λ f. absurd (false≢true (sym e ∙ ap (same name) (sym (same_Some name other (sym apart.here ∙ f))) ∙ name_itself name))) kind s t h
