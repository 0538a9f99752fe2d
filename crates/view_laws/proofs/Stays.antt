-- A view shows just in those ticks that a runner is RUNNING in which the lines tell it.
use Rattle.std.proofs.Common.{◌≡◌, ◌<◌, ◌≤◌, ℕ, suc, max, Bool, true, false, not, ◌⊎◌, inl, inr, List, [], ◌∷◌, ◌++◌, Option, Some, None, refl, sym, ap, ◌∙◌, subst, arith}
use Rattle.std.specs.Prelude.{◌+◌, ◌==◌, ◌&&◌, ◌||◌, nat_le, nat_lt, if◌then◌else◌, is_some}
use Rattle.std.proofs.lemmas.Bool.{and_left, and_parts, and_right, cases_eq, cases_lt, eq-eqb, ne_eqb, false≢true, le-leb, le-ltb, lt-leb, lt-ltb, ltb-false, ltb-true}
use Rattle.std.proofs.lemmas.Option.{none-some, same_Some}
use Rattle.apex_types.specs.Limits.{MOST_TICKS}
use Rattle.apex_types.specs.Line.{subject_text}
use Rattle.apex_types.specs.declared.codes.ErrorKind.TheVariants as error
use Rattle.apex_types.specs.declared.codes.Mode.TheVariants as mode
use Rattle.apex_types.specs.declared.codes.ModuleAction.TheVariants as reaction
use Rattle.apex_types.specs.declared.codes.PartitionAction.{PartitionAction}
use Rattle.apex_types.specs.declared.codes.PartitionAction.TheVariants as action
use Rattle.apex_types.specs.declared.codes.ProcessState.{ProcessState}
use Rattle.apex_types.specs.declared.codes.ProcessState.TheVariants as state
use Rattle.apex_types.specs.declared.codes.Response.TheVariants as response
use Rattle.apex_types.specs.declared.event.Event.{Event}
use Rattle.apex_types.specs.declared.event.EventKind.{EventKind}
use Rattle.apex_types.specs.declared.event.EventKind.TheVariants as event
use Rattle.apex_types.specs.declared.event.Subject.{Subject}
use Rattle.engine_meaning.specs.Digits.{same}
use Rattle.state_laws.specs.Told.{Told, cleared, first_told, has_worked, is_ignored, is_it, is_same, preempted, running_or, said_by, says, says_module, told, told_from, worked_in, worker_by_lines, worker_or}
use Rattle.state_laws.specs.Told as reading
use Rattle.state_laws.proofs.Moves.{IsBefore}
use Rattle.state_laws.proofs.Subjects.{same_itself, same_subject}
use Rattle.trace_stays.specs.Clearing.{starts_by}
use Rattle.trace_stays.specs.Following.{and_one, held_with, next_by, next_if, next_in, next_of_all, stay_with}
use Rattle.trace_stays.specs.Stays.{begins_at, behind, held_behind, left_at, stay_ended, stay_until, tick}
use Rattle.trace_stays.specs.Traces.{state_after, stays_in, with_line}
use Rattle.trace_stays.specs.declared.next.Next.{Next}
use Rattle.trace_stays.specs.declared.next.Next.TheVariants.{Enters, Gone, Cleared}
use Rattle.trace_stays.specs.declared.stay.Held.{Held}
use Rattle.trace_stays.specs.declared.stay.Stay.{Stay}
use Rattle.trace_windows.specs.Runs.{AreInOrder}
use Rattle.trace_windows.specs.Uses.{one_if}
use Rattle.view_laws.specs.Reading.{up_to}
use Rattle.view_laws.specs.Shown.{HasOwnWord}
use Rattle.view_laws.specs.Ticks.{has_tick, is_running, running_in, runs_told}
use Rattle.view_laws.proofs.Shown.{AreToldApart, ToldApart, own_word, same_turned}
use Rattle.view_laws.proofs.Told.{not_in}

-- ---- a runner becomes RUNNING only in a tick that nobody of its partition has spent yet

abbrev IsFree : ℕ → Told → EventKind → Type 0
IsFree tick t (event.State who state.Running) = worker_by_lines tick t ≡ None
IsFree tick t _ = Unit {0}

abbrev IsFreeIf : Bool → ℕ → Told → EventKind → Type 0
IsFreeIf true tick t kind = IsFree tick t kind
IsFreeIf false tick t kind = Unit {0}

abbrev IsFreeIn : List ℕ → Told → Option (List ℕ) → ℕ → EventKind → Type 0
IsFreeIn name t None tick kind = Unit {0}
IsFreeIn name t (Some other) tick kind = IsFreeIf (same name other) tick t kind

abbrev RunInTurn : List ℕ → Told → List Event → Type 0
RunInTurn name t [] = Unit {0}
RunInTurn name t (e ∷ es) = IsFreeIn name t e.partition e.tick.0 e.kind × RunInTurn name (reading.with_line name t e) es

unspent : (o : Option Subject) → not (is_some o) ≡ true → o ≡ None
unspent None e = refl
unspent (Some who) e = absurd (false≢true e)

-- a line that leaves the runners in turn came to such, and was in turn
abbrev InTurn : ℕ → Told → EventKind → Told → Type 0
InTurn tick t kind u = u.orderly ≡ true → (t.orderly ≡ true) × IsFree tick t kind

state_in_turn : (tick : ℕ) (t : Told) (who : Subject) (s : ProcessState) → InTurn tick t (event.State who s) (says tick t (event.State who s))
state_in_turn tick t who state.Running e = let parts = and_parts t.orderly (not (is_some (worker_by_lines tick t))) e in (parts.0, unspent (worker_by_lines tick t) parts.1)
state_in_turn tick t who state.Ready e = (by_test (is_it who t.running) e, tt)
  where
    by_test : (b : Bool) → (if b then preempted t else t).orderly ≡ true → t.orderly ≡ true
    by_test true h = h
    by_test false h = h
state_in_turn tick t who state.Waiting e = (by_test (is_it who t.running) e, tt)
  where
    by_test : (b : Bool) → (if b then has_worked tick t else t).orderly ≡ true → t.orderly ≡ true
    by_test true h = h
    by_test false h = h
state_in_turn tick t who state.Dormant e = (by_test (is_it who t.running) e, tt)
  where
    by_test : (b : Bool) → (if b then has_worked tick t else t).orderly ≡ true → t.orderly ≡ true
    by_test true h = h
    by_test false h = h

response_in_turn : (t : Told) (a : PartitionAction) → (if is_ignored a then t else cleared t).orderly ≡ true → t.orderly ≡ true
response_in_turn t action.Ignore h = h
response_in_turn t action.Idle h = h
response_in_turn t action.WarmStart h = h
response_in_turn t action.ColdStart h = h

own_in_turn : (tick : ℕ) (t : Told) (kind : EventKind) → InTurn tick t kind (says tick t kind)
own_in_turn tick t (event.State who s) e = state_in_turn tick t who s e
own_in_turn tick t (event.Mode mode.Normal) e = (e, tt)
own_in_turn tick t (event.Mode mode.Idle) e = (e, tt)
own_in_turn tick t (event.Mode mode.ColdStart) e = (e, tt)
own_in_turn tick t (event.Mode mode.WarmStart) e = (e, tt)
own_in_turn tick t (event.Error k who response.Handler) e = (e, tt)
own_in_turn tick t (event.Error k who (response.Module a)) e = (e, tt)
own_in_turn tick t (event.Error error.DeadlineMissed who (response.Partition a)) e = (response_in_turn t a e, tt)
own_in_turn tick t (event.Error error.HardwareFault who (response.Partition a)) e = (response_in_turn t a e, tt)
own_in_turn tick t (event.Error error.ApplicationError who (response.Partition a)) e = (e, tt)
own_in_turn tick t (event.Error error.NumericError who (response.Partition a)) e = (e, tt)
own_in_turn tick t (event.Error error.IllegalRequest who (response.Partition a)) e = (e, tt)
own_in_turn tick t (event.Error error.StackOverflow who (response.Partition a)) e = (e, tt)
own_in_turn tick t (event.Error error.MemoryViolation who (response.Partition a)) e = (e, tt)
own_in_turn tick t (event.Return who service code) e = (e, tt)
own_in_turn tick t (event.Report who words) e = (e, tt)
own_in_turn tick t (event.Move port words) e = (e, tt)
own_in_turn tick t (event.Arrive port words) e = (e, tt)
own_in_turn tick t (event.Lost port words) e = (e, tt)
own_in_turn tick t (event.Out channel words) e = (e, tt)

module_in_turn : (t : Told) (kind : EventKind) → (says_module t kind).orderly ≡ true → t.orderly ≡ true
module_in_turn t (event.Error k who response.Handler) e = e
module_in_turn t (event.Error k who (response.Partition a)) e = e
module_in_turn t (event.Error k who (response.Module reaction.Ignore)) e = e
module_in_turn t (event.Error k who (response.Module reaction.Shutdown)) e = e
module_in_turn t (event.Error k who (response.Module reaction.Reset)) e = e
module_in_turn t (event.State who s) e = e
module_in_turn t (event.Mode m) e = e
module_in_turn t (event.Return who service code) e = e
module_in_turn t (event.Report who words) e = e
module_in_turn t (event.Move port words) e = e
module_in_turn t (event.Arrive port words) e = e
module_in_turn t (event.Lost port words) e = e
module_in_turn t (event.Out channel words) e = e

line_in_turn : (name : List ℕ) (t : Told) (p : Option (List ℕ)) (tick : ℕ) (kind : EventKind) → (said_by name t p tick kind).orderly ≡ true → (t.orderly ≡ true) × IsFreeIn name t p tick kind
line_in_turn name t None tick kind e = (module_in_turn t kind e, tt)
line_in_turn name t (Some other) tick kind e = by_test (same name other) e
  where
    by_test : (b : Bool) → (if b then says tick t kind else t).orderly ≡ true → (t.orderly ≡ true) × IsFreeIf b tick t kind
    by_test true h = own_in_turn tick t kind h
    by_test false h = (h, tt)

lines_in_turn : (name : List ℕ) (lines : List Event) (t : Told) → (told_from name t lines).orderly ≡ true → (t.orderly ≡ true) × RunInTurn name t lines
lines_in_turn name [] t e = (e, tt)
lines_in_turn name (l ∷ ls) t e =
    let rest = lines_in_turn name ls (reading.with_line name t l) e in
    let here = line_in_turn name t l.partition l.tick.0 l.kind rest.0 in
    (here.0, (here.1, rest.1))

-- ---- where a stay is left

rests_at : (s : ProcessState) (n : Next) (z : ℕ) → is_running s ≡ false → left_at s n z ≡ z
rests_at state.Running n z e = absurd (false≢true (sym e))
rests_at state.Dormant n z e = refl
rests_at state.Ready n z e = refl
rests_at state.Waiting n z e = refl

ready_at : (s : ProcessState) (z : ℕ) → left_at s (Enters state.Ready) z ≡ z
ready_at state.Running z = refl
ready_at state.Dormant z = refl
ready_at state.Ready z = refl
ready_at state.Waiting z = refl

cleared_at : (s : ProcessState) (z : ℕ) → left_at s Cleared z ≡ z
cleared_at state.Running z = refl
cleared_at state.Dormant z = refl
cleared_at state.Ready z = refl
cleared_at state.Waiting z = refl

is_running_so : (s : ProcessState) → is_running s ≡ true → s ≡ state.Running
is_running_so state.Running e = refl
is_running_so state.Dormant e = absurd (false≢true e)
is_running_so state.Ready e = absurd (false≢true e)
is_running_so state.Waiting e = absurd (false≢true e)

and_true : (a : Bool) → (a && true) ≡ a
and_true true = refl
and_true false = refl

none_both : (r o : Option Subject) → running_or r o ≡ None → (r ≡ None) × (o ≡ None)
none_both None o e = (refl, e)
none_both (Some who) o e = absurd (none-some who (sym e))

abbrev is_run : Option Held → Bool
is_run None = false
is_run (Some h) = is_running h.state

module _ (x : ℕ) (few : x < MOST_TICKS) where
  -- a stay that ends counts if it has the tick
  abbrev counted : Option Stay → ℕ
  counted None = 0
  counted (Some s) = one_if (is_running s.state && has_tick x s.span)

  and_counted : (o : Option Stay) (rest : List Stay) → running_in x (and_one o ++ rest) ≡ counted o + running_in x rest
  and_counted None rest = omega arith
  and_counted (Some s) rest = refl

  abbrev shows_now : Option Held → ℕ
  shows_now None = 0
  shows_now (Some h) = one_if (is_running h.state && nat_le h.since.0 x)

  -- ---- lines of later ticks

  behind_late : (z : ℕ) → x < z → x < behind z
  behind_late z l = omega (arith, l, few)

  pub left_late : (s : ProcessState) (n : Next) (z : ℕ) → x < z → x < left_at s n z
  left_late state.Dormant n z l = l
  left_late state.Ready n z l = l
  left_late state.Waiting n z l = l
  left_late state.Running (Enters state.Ready) z l = l
  left_late state.Running (Enters state.Dormant) z l = behind_late z l
  left_late state.Running (Enters state.Running) z l = behind_late z l
  left_late state.Running (Enters state.Waiting) z l = behind_late z l
  left_late state.Running Gone z l = behind_late z l
  left_late state.Running Cleared z l = l

  pub has_late : (a : Bool) (from until : ℕ) → x < until → one_if (a && (nat_le from x && nat_lt x until)) ≡ one_if (a && nat_le from x)
  has_late a from until l = ap (λ (b : Bool). one_if (a && (nat_le from x && b))) (lt-ltb x until l) ∙ ap (λ (b : Bool). one_if (a && b)) (and_true (nat_le from x))

  pub begins_late : (o : Option Held) (s : ProcessState) (z : ℕ) → x < z → x < begins_at o (Enters s) z
  begins_late None s z l = l
  begins_late (Some h) s z l = let k = left_late h.state (Enters s) z l in omega (arith, k)

  shows_later : (o : Option Held) (n : Next) (z : ℕ) → x < z → shows_now (held_behind o n z) ≡ 0
  shows_later o (Enters s) z l = ap one_if (and_right (is_running s) (nat_le (begins_at o (Enters s) z) x) (lt-leb (begins_at o (Enters s) z) x (begins_late o s z l)))
  shows_later o Gone z l = refl
  shows_later o Cleared z l = refl

  late : (lines : List Event) (until : ℕ) (name word : List ℕ) (held : Option Held) → AreInOrder (suc x) lines → x < until → running_in x (stays_in lines until name word held) ≡ shows_now held
  late [] until name word None order l = refl
  late [] until name word (Some h) order l = let k = has_late (is_running h.state) h.since.0 (max h.since.0 until) (omega (arith, l)) in omega (arith, k)
  late (e ∷ es) until name word held order l =
      by_next (next_by e.partition e.kind name word) held (λ new. late es until name word new (later es e.tick.0 order.0 order.1) l)
    where
      later : (es : List Event) (z : ℕ) → suc x ≤ z → AreInOrder z es → AreInOrder (suc x) es
      later [] z l h = tt
      later (f ∷ fs) z l h = let a = h.0 in (omega (arith, a, l), h.1)

      after : x < e.tick.0
      after = let a = order.0 in omega (arith, a)

      by_next : (o : Option Next) (held : Option Held) → ((new : Option Held) → running_in x (stays_in es until name word new) ≡ shows_now new)
          → running_in x (and_one (stay_with o e.tick.0 held) ++ stays_in es until name word (held_with o e.tick.0 held)) ≡ shows_now held
      by_next None held rest = rest held
      by_next (Some n) None rest = rest (held_behind None n e.tick.0) ∙ shows_later None n e.tick.0 after
      by_next (Some n) (Some h) rest =
          let a = has_late (is_running h.state) h.since.0 (stay_until h n e.tick.0) (let k = left_late h.state n e.tick.0 after in omega (arith, k)) in
          let b = rest (held_behind (Some h) n e.tick.0) in
          let c = shows_later (Some h) n e.tick.0 after in
          omega (arith, a, b, c)

  -- ---- lines up to the tick

  pub not_there : (from until : ℕ) → until ≤ x → (nat_le from x && nat_lt x (max from until)) ≡ false
  not_there from until l = elim (cases_lt x from) [
    | inl low ↦ and_left (nat_le from x) (nat_lt x (max from until)) (lt-leb from x low)
    | inr high ↦ and_right (nat_le from x) (nat_lt x (max from until)) (le-ltb x (max from until) (omega (arith, l, high)))
  ]

  is_there : (from until : ℕ) → from ≤ x → x < until → (nat_le from x && nat_lt x (max from until)) ≡ true
  is_there from until l k = ap (λ (b : Bool). b && nat_lt x (max from until)) (le-leb from x l) ∙ lt-ltb x (max from until) (omega (arith, k))

  -- a stay that was not in RUNNING, or that ends before the tick's work, does not have the tick
  counted_rest : (held : Option Held) (n : Next) (z : ℕ) → is_run held ≡ false → counted (stay_ended held n z) ≡ 0
  counted_rest None n z e = refl
  counted_rest (Some h) n z e = ap one_if (and_left (is_running h.state) (has_tick x (record { from = h.since; until = tick (stay_until h n z) })) e)

  counted_cut : (held : Option Held) (n : Next) (z : ℕ) → z ≤ x → ((s : ProcessState) → left_at s n z ≡ z) → counted (stay_ended held n z) ≡ 0
  counted_cut None n z l at = refl
  counted_cut (Some h) n z l at =
      ap one_if (and_right (is_running h.state) (has_tick x (record { from = h.since; until = tick (stay_until h n z) })) (ap (λ (u : ℕ). nat_le h.since.0 x && nat_lt x (max h.since.0 u)) (at h.state) ∙ not_there h.since.0 z l))

  module _ (who : Subject) where
    -- the state that is shown, who runs and who worked last by the lines, and how many stays have counted
    pub record Runs (z : ℕ) (held : Option Held) (r : Option Subject) (w : Option (ℕ × Subject)) (c : ℕ) : Type 0 where
      pub runs : is_run held ≡ is_it who r
      pub count : c ≡ one_if (is_it who (worked_in x w))
      pub free : (y : Subject) → r ≡ Some y → worked_in z w ≡ None
      pub since : (h : Held) → held ≡ Some h → (h.since.0 ≤ z) ⊎ ((h.since.0 ≡ suc z) × (is_it who (worked_in z w) ≡ true))
      pub before : IsBefore (suc z) w

    later_before : (z v : ℕ) (w : Option (ℕ × Subject)) → z ≤ v → IsBefore (suc z) w → IsBefore (suc v) w
    later_before z v None l h = tt
    later_before z v (Some w) l h = omega (arith, l, h)

    later_tick : (z v : ℕ) (held : Option Held) (r : Option Subject) (w : Option (ℕ × Subject)) (c : ℕ) → z ≤ v → Runs z held r w c → Runs v held r w c
    later_tick z v held r w c l h = elim (cases_lt z v) [
      | inl low ↦ record {
        runs = h.runs;
        count = h.count;
        free = λ y e. sym (not_in z v w low h.before);
        since = λ k e. elim (h.since k e) [ inl a ↦ inl (omega (arith, a, l)) | inr a ↦ let is = a.0 in inl (omega (arith, is, low)) ];
        before = later_before z v w l h.before;
      }
      | inr high ↦ let is : z ≡ v = omega (arith, l, high) in subst (λ (i : ℕ). Runs i held r w c) is h
    ]

    module _ (z : ℕ) (l : z ≤ x) (held : Option Held) (r : Option Subject) (w : Option (ℕ × Subject)) (c : ℕ) (h : Runs z held r w c) where
      none_yet : (y : Subject) → r ≡ Some y → worked_in x w ≡ None
      none_yet y e = elim (cases_lt z x) [
        | inl low ↦ sym (not_in z x w low h.before)
        | inr high ↦ let is : z ≡ x = omega (arith, l, high) in subst (λ (i : ℕ). worked_in i w ≡ None) is (h.free y e)
      ]

      since_free : worked_in z w ≡ None → (k : Held) → held ≡ Some k → k.since.0 ≤ z
      since_free none k e = elim (h.since k e) [ inl a ↦ a | inr a ↦ absurd (false≢true (sym (ap (is_it who) none) ∙ a.1)) ]

      -- the stay that begins
      abbrev IsSince : ℕ → Option (ℕ × Subject) → Type 0
      IsSince s v = (s ≤ z) ⊎ ((s ≡ suc z) × (is_it who (worked_in z v) ≡ true))

      begins_so : (s : ProcessState) → ((k : Held) → held ≡ Some k → left_at k.state (Enters s) z ≡ z) → IsSince (begins_at held (Enters s) z) w
      begins_so s at = by_held held refl
        where
          by_held : (o : Option Held) → held ≡ o → IsSince (begins_at o (Enters s) z) w
          by_held None e = inl (omega arith)
          by_held (Some k) e =
              let there = at k e in
              elim (h.since k e) [
                | inl a ↦ inl (omega (arith, there, a))
                | inr a ↦ let is = a.0 in inr (omega (arith, there, is), a.1)
              ]

      begins_resting : (s : ProcessState) → is_run held ≡ false → IsSince (begins_at held (Enters s) z) w
      begins_resting s rests = begins_so s (λ k e. rests_at k.state (Enters s) z (sym (ap is_run e) ∙ rests))

      held_since : (s : ProcessState) (since : ℕ) (v : Option (ℕ × Subject)) → IsSince since v → (k : Held) → Some (record { state = s; since = tick since }) ≡ Some k → (k.since.0 ≤ z) ⊎ ((k.since.0 ≡ suc z) × (is_it who (worked_in z v) ≡ true))
      held_since s since v h k e = subst (λ (y : Held). (y.since.0 ≤ z) ⊎ ((y.since.0 ≡ suc z) × (is_it who (worked_in z v) ≡ true))) (same_Some (record { state = s; since = tick since }) k e) h

      -- ---- all are gone

      all_gone : Runs z None None w (c + counted (stay_ended held Cleared z))
      all_gone =
          let k = counted_cut held Cleared z l (λ s. cleared_at s z) in
          let a = h.count in
          record { runs = refl; count = omega (arith, k, a); free = λ y e. absurd (none-some y e); since = λ k e. absurd (none-some k e); before = h.before }

      -- ---- the one that runs leaves by its work

      at_work : (n : Next) (k : Held) → left_at state.Running n z ≡ suc z → k.state ≡ state.Running → k.since.0 ≤ z → counted (stay_ended (Some k) n z) ≡ one_if (z == x)
      at_work n k at is low =
          ap (λ (s : ProcessState). one_if (is_running s && (nat_le k.since.0 x && nat_lt x (max k.since.0 (left_at s n z))))) is
          ∙ ap (λ (u : ℕ). one_if (nat_le k.since.0 x && nat_lt x (max k.since.0 u))) at
          ∙ by_tick (cases_eq z x)
        where
          by_tick : (z ≡ x) ⊎ (z ≡ x → ⊥) → one_if (nat_le k.since.0 x && nat_lt x (max k.since.0 (suc z))) ≡ one_if (z == x)
          by_tick (inl e) = ap one_if (is_there k.since.0 (suc z) (omega (arith, low, l)) (omega (arith, e)) ∙ sym (eq-eqb z x e))
          by_tick (inr e) = ap one_if (not_there k.since.0 (suc z) (omega (arith, l, e)) ∙ sym (ne_eqb z x e))

      works_by : (b : Bool) (y : Subject) → is_same who y ≡ b → one_if (is_it who (worked_in x (Some (z, y)))) ≡ one_if (b && (z == x))
      works_by b y e = by_test (z == x)
        where
          by_test : (a : Bool) → one_if (is_it who (if a then Some y else None)) ≡ one_if (b && a)
          by_test true = ap one_if (e ∙ sym (and_true b))
          by_test false = ap one_if (sym (and_right b false refl))

      left_count : (n : Next) (y : Subject) → left_at state.Running n z ≡ suc z → r ≡ Some y → c + counted (stay_ended held n z) ≡ one_if (is_it who (worked_in x (Some (z, y))))
      left_count n y at e = by_test (is_same who y) refl
        where
          nothing : c ≡ 0
          nothing = h.count ∙ ap (λ (o : Option Subject). one_if (is_it who o)) (none_yet y e)

          by_held : (o : Option Held) → held ≡ o → is_run o ≡ true → counted (stay_ended o n z) ≡ one_if (z == x)
          by_held None f g = absurd (false≢true g)
          by_held (Some k) f g = at_work n k at (is_running_so k.state g) (since_free (h.free y e) k f)

          by_test : (b : Bool) → is_same who y ≡ b → c + counted (stay_ended held n z) ≡ one_if (is_it who (worked_in x (Some (z, y))))
          by_test true f =
              let runs : is_run held ≡ true = h.runs ∙ ap (is_it who) e ∙ f in
              let k = by_held held refl runs in
              let a = works_by true y f in
              omega (arith, nothing, k, a)
          by_test false f =
              let rests : is_run held ≡ false = h.runs ∙ ap (is_it who) e ∙ f in
              let k = counted_rest held n z rests in
              let a = works_by false y f in
              omega (arith, nothing, k, a)

      -- with a mode all are gone, and the one that ran has worked
      starts_again : left_at state.Running Gone z ≡ suc z → Runs z None None (worker_or z w r) (c + counted (stay_ended held Gone z))
      starts_again at = by_runner r refl
        where
          by_runner : (o : Option Subject) → r ≡ o → Runs z None None (worker_or z w o) (c + counted (stay_ended held Gone z))
          by_runner None e =
              let k = counted_rest held Gone z (h.runs ∙ ap (is_it who) e) in
              let a = h.count in
              record { runs = refl; count = omega (arith, k, a); free = λ y f. absurd (none-some y f); since = λ k f. absurd (none-some k f); before = h.before }
          by_runner (Some y) e = record { runs = refl; count = left_count Gone y at e; free = λ y f. absurd (none-some y f); since = λ k f. absurd (none-some k f); before = omega arith }

      -- ---- another runner

      other_runs : (y : Subject) → r ≡ None → worked_in z w ≡ None → is_same who y ≡ false → Runs z held (Some y) w c
      other_runs y none unspent other = record { runs = h.runs ∙ ap (is_it who) none ∙ sym other; count = h.count; free = λ v e. unspent; since = h.since; before = h.before }

      other_leaves : (y : Subject) → r ≡ Some y → is_same who y ≡ false → Runs z held None w c
      other_leaves y e other = record { runs = h.runs ∙ ap (is_it who) e ∙ other; count = h.count; free = λ v f. absurd (none-some v f); since = h.since; before = h.before }

      other_works : (y : Subject) → r ≡ Some y → is_same who y ≡ false → Runs z held None (worker_or z w r) c
      other_works y e other = subst (λ (o : Option Subject). Runs z held None (worker_or z w o) c) (sym e) (record {
        runs = h.runs ∙ ap (is_it who) e ∙ other;
        count = h.count ∙ ap (λ (o : Option Subject). one_if (is_it who o)) (none_yet y e) ∙ sym (works_by false y other);
        free = λ v f. absurd (none-some v f);
        since = λ k f. inl (since_free (h.free y e) k f);
        before = omega arith;
      })

      -- ---- the runner itself

      itself_runs : r ≡ None → worked_in z w ≡ None → Runs z (held_behind held (Enters state.Running) z) (Some who) w (c + counted (stay_ended held (Enters state.Running) z))
      itself_runs none unspent =
          let rests : is_run held ≡ false = h.runs ∙ ap (is_it who) none in
          let k = counted_rest held (Enters state.Running) z rests in
          let a = h.count in
          record {
            runs = sym (same_itself who);
            count = omega (arith, k, a);
            free = λ v e. unspent;
            since = held_since state.Running (begins_at held (Enters state.Running) z) w (begins_resting state.Running rests);
            before = h.before;
          }

      itself_ready : Runs z (held_behind held (Enters state.Ready) z) (if is_it who r then None else r) w (c + counted (stay_ended held (Enters state.Ready) z))
      itself_ready = by_test (is_it who r) refl
        where
          k : counted (stay_ended held (Enters state.Ready) z) ≡ 0
          k = counted_cut held (Enters state.Ready) z l (λ s. ready_at s z)

          since_ready : (y : Held) → held_behind held (Enters state.Ready) z ≡ Some y → (y.since.0 ≤ z) ⊎ ((y.since.0 ≡ suc z) × (is_it who (worked_in z w) ≡ true))
          since_ready = held_since state.Ready (begins_at held (Enters state.Ready) z) w (begins_so state.Ready (λ y e. ready_at y.state z))

          by_test : (b : Bool) → is_it who r ≡ b → Runs z (held_behind held (Enters state.Ready) z) (if b then None else r) w (c + counted (stay_ended held (Enters state.Ready) z))
          by_test true e = let a = h.count in record { runs = refl; count = omega (arith, k, a); free = λ v f. absurd (none-some v f); since = since_ready; before = h.before }
          by_test false e = let a = h.count in record { runs = sym e; count = omega (arith, k, a); free = h.free; since = since_ready; before = h.before }

      it_is : is_it who r ≡ true → (y : Subject) × ((r ≡ Some y) × (is_same who y ≡ true))
      it_is e = by_runner r refl e
        where
          by_runner : (o : Option Subject) → r ≡ o → is_it who o ≡ true → (y : Subject) × ((r ≡ Some y) × (is_same who y ≡ true))
          by_runner None f g = absurd (false≢true g)
          by_runner (Some y) f g = (y, (f, g))

      -- it waits, or is done
      itself_rests : (s : ProcessState) → is_running s ≡ false → left_at state.Running (Enters s) z ≡ suc z
          → Runs z (held_behind held (Enters s) z) (if is_it who r then None else r) (if is_it who r then worker_or z w r else w) (c + counted (stay_ended held (Enters s) z))
      itself_rests s other at = by_test (is_it who r) refl
        where
          by_test : (b : Bool) → is_it who r ≡ b → Runs z (held_behind held (Enters s) z) (if b then None else r) (if b then worker_or z w r else w) (c + counted (stay_ended held (Enters s) z))
          by_test false e =
              let rests : is_run held ≡ false = h.runs ∙ e in
              let k = counted_rest held (Enters s) z rests in
              let a = h.count in
              record { runs = other ∙ sym e; count = omega (arith, k, a); free = h.free; since = held_since s (begins_at held (Enters s) z) w (begins_resting s rests); before = h.before }
          by_test true e =
              let i = it_is e in
              let y = i.0 in
              let j = i.1 in
              let is = j.0 in
              subst (λ (o : Option Subject). Runs z (held_behind held (Enters s) z) None (worker_or z w o) (c + counted (stay_ended held (Enters s) z))) (sym is) (record {
                runs = other;
                count = left_count (Enters s) y at is;
                free = λ v f. absurd (none-some v f);
                since = held_since s (begins_at held (Enters s) z) (Some (z, y)) (begins_behind y j.1 (h.free y is) held refl (h.runs ∙ e));
                before = omega arith;
              })
            where
              begins_behind : (y : Subject) → is_same who y ≡ true → worked_in z w ≡ None → (o : Option Held) → held ≡ o → is_run o ≡ true
                  → (begins_at o (Enters s) z ≤ z) ⊎ ((begins_at o (Enters s) z ≡ suc z) × (is_it who (worked_in z (Some (z, y))) ≡ true))
              begins_behind y own none None f g = absurd (false≢true g)
              begins_behind y own none (Some k) f g =
                  let low = since_free none k f in
                  let there : left_at k.state (Enters s) z ≡ suc z = ap (λ (x : ProcessState). left_at x (Enters s) z) (is_running_so k.state g) ∙ at in
                  inr (omega (arith, low, there), ap (λ (b : Bool). is_it who (if b then Some y else None)) (eq-eqb z z refl) ∙ own)

    -- ---- lines

    behind_so : (z : ℕ) → z ≤ x → behind z ≡ suc z
    behind_so z l = omega (arith, l, few)

    abbrev Told_at : ℕ → Option Held → Told → ℕ → Type 0
    Told_at z held t c = Runs z held t.running t.worked c

    -- after a line that says where the runner goes
    abbrev Goes : ℕ → Option Next → Option Held → Told → ℕ → Type 0
    Goes z n held t c = Told_at z (held_with n z held) t (c + counted (stay_with n z held))

    module _ (z : ℕ) (l : z ≤ x) (held : Option Held) (t : Told) (c : ℕ) (h : Told_at z held t c) where
      nothing_said : Goes z None held t c
      nothing_said = let a = h.count in record { runs = h.runs; count = omega (arith, a); free = h.free; since = h.since; before = h.before }

      is_other : (v y : Subject) → is_it v t.running ≡ true → t.running ≡ Some y → v ≡ y
      is_other v y e f = same_subject v y (sym (ap (is_it v) f) ∙ e)

      runner_of : (v : Subject) → is_it v t.running ≡ true → t.running ≡ Some v
      runner_of v e = by_runner t.running refl
        where
          by_runner : (o : Option Subject) → t.running ≡ o → t.running ≡ Some v
          by_runner None f = absurd (false≢true (sym (ap (is_it v) f) ∙ e))
          by_runner (Some y) f = f ∙ ap Some (sym (is_other v y e f))

      -- the line is of another runner
      other_state : (v : Subject) (s : ProcessState) → is_same who v ≡ false → IsFree z t (event.State v s) → Goes z None held (says z t (event.State v s)) c
      other_state v state.Running other free =
          let both = none_both t.running (worked_in z t.worked) free in
          let k = other_runs z l held t.running t.worked c h v both.0 both.1 other in
          let a = k.count in
          record { runs = k.runs; count = omega (arith, a); free = k.free; since = k.since; before = k.before }
      other_state v state.Ready other free = by_test (is_it v t.running) refl
        where
          by_test : (b : Bool) → is_it v t.running ≡ b → Goes z None held (if b then preempted t else t) c
          by_test false e = nothing_said
          by_test true e =
              let k = other_leaves z l held t.running t.worked c h v (runner_of v e) other in
              let a = k.count in
              record { runs = k.runs; count = omega (arith, a); free = k.free; since = k.since; before = k.before }
      other_state v state.Waiting other free = by_test (is_it v t.running) refl
        where
          by_test : (b : Bool) → is_it v t.running ≡ b → Goes z None held (if b then has_worked z t else t) c
          by_test false e = nothing_said
          by_test true e =
              let k = other_works z l held t.running t.worked c h v (runner_of v e) other in
              let a = k.count in
              record { runs = k.runs; count = omega (arith, a); free = k.free; since = k.since; before = k.before }
      other_state v state.Dormant other free = by_test (is_it v t.running) refl
        where
          by_test : (b : Bool) → is_it v t.running ≡ b → Goes z None held (if b then has_worked z t else t) c
          by_test false e = nothing_said
          by_test true e =
              let k = other_works z l held t.running t.worked c h v (runner_of v e) other in
              let a = k.count in
              record { runs = k.runs; count = omega (arith, a); free = k.free; since = k.since; before = k.before }

      -- the line is of the runner
      itself_rested : (s : ProcessState) → is_running s ≡ false → left_at state.Running (Enters s) z ≡ suc z → Goes z (Some (Enters s)) held (if is_it who t.running then has_worked z t else t) c
      itself_rested s other at = by_test (is_it who t.running) (itself_rests z l held t.running t.worked c h s other at)
        where
          by_test : (b : Bool) → Runs z (held_behind held (Enters s) z) (if b then None else t.running) (if b then worker_or z t.worked t.running else t.worked) (c + counted (stay_ended held (Enters s) z))
              → Goes z (Some (Enters s)) held (if b then has_worked z t else t) c
          by_test true k = record { runs = k.runs; count = k.count; free = k.free; since = k.since; before = k.before }
          by_test false k = record { runs = k.runs; count = k.count; free = k.free; since = k.since; before = k.before }

      itself_state : (s : ProcessState) → IsFree z t (event.State who s) → Goes z (Some (Enters s)) held (says z t (event.State who s)) c
      itself_state state.Running free =
          let both = none_both t.running (worked_in z t.worked) free in
          let k = itself_runs z l held t.running t.worked c h both.0 both.1 in
          record { runs = k.runs; count = k.count; free = k.free; since = k.since; before = k.before }
      itself_state state.Ready free = by_test (is_it who t.running) (itself_ready z l held t.running t.worked c h)
        where
          by_test : (b : Bool) → Runs z (held_behind held (Enters state.Ready) z) (if b then None else t.running) t.worked (c + counted (stay_ended held (Enters state.Ready) z))
              → Goes z (Some (Enters state.Ready)) held (if b then preempted t else t) c
          by_test true k = record { runs = k.runs; count = k.count; free = k.free; since = k.since; before = k.before }
          by_test false k = record { runs = k.runs; count = k.count; free = k.free; since = k.since; before = k.before }
      itself_state state.Waiting free = let k = itself_rested state.Waiting refl (behind_so z l) in record { runs = k.runs; count = k.count; free = k.free; since = k.since; before = k.before }
      itself_state state.Dormant free = let k = itself_rested state.Dormant refl (behind_so z l) in record { runs = k.runs; count = k.count; free = k.free; since = k.since; before = k.before }

      own_state : (v : Subject) (s : ProcessState) → ToldApart who (event.State v s) → IsFree z t (event.State v s) → Goes z (next_in (event.State v s) (subject_text who)) held (says z t (event.State v s)) c
      own_state v s apart free = subst (λ (b : Bool). Goes z (next_if b (Enters s)) held (says z t (event.State v s)) c) (sym apart) (by_test (is_same who v) refl)
        where
          by_test : (b : Bool) → is_same who v ≡ b → Goes z (next_if b (Enters s)) held (says z t (event.State v s)) c
          by_test false e = other_state v s e free
          by_test true e =
              let is = same_subject who v e in
              subst (λ (y : Subject). Goes z (Some (Enters s)) held (says z t (event.State y s)) c) is (itself_state s (subst (λ (y : Subject). IsFree z t (event.State y s)) (sym is) free))

      -- all are gone
      gone_now : Goes z (Some Cleared) held (cleared t) c
      gone_now = let k = all_gone z l held t.running t.worked c h in record { runs = k.runs; count = k.count; free = k.free; since = k.since; before = k.before }

      again_now : (u : Told) → u.running ≡ None → u.worked ≡ worker_or z t.worked t.running → Goes z (Some Gone) held u c
      again_now u none worked =
          let k = starts_again z l held t.running t.worked c h (behind_so z l) in
          subst (λ (r : Option Subject). Runs z None r u.worked (c + counted (stay_ended held Gone z))) (sym none) (subst (λ (w : Option (ℕ × Subject)). Runs z None None w (c + counted (stay_ended held Gone z))) (sym worked) k)

      by_response : (a : PartitionAction) → Goes z (next_if (starts_by a) Cleared) held (if is_ignored a then t else cleared t) c
      by_response action.Ignore = nothing_said
      by_response action.Idle = gone_now
      by_response action.WarmStart = gone_now
      by_response action.ColdStart = gone_now

      own_line : (kind : EventKind) → ToldApart who kind → IsFree z t kind → Goes z (next_in kind (subject_text who)) held (says z t kind) c
      own_line (event.State v s) apart free = own_state v s apart free
      own_line (event.Mode mode.Normal) apart free = let k = nothing_said in record { runs = k.runs; count = k.count; free = k.free; since = k.since; before = k.before }
      own_line (event.Mode mode.Idle) apart free = again_now (says z t (event.Mode mode.Idle)) refl refl
      own_line (event.Mode mode.ColdStart) apart free = again_now (says z t (event.Mode mode.ColdStart)) refl refl
      own_line (event.Mode mode.WarmStart) apart free = again_now (says z t (event.Mode mode.WarmStart)) refl refl
      own_line (event.Error e v response.Handler) apart free = nothing_said
      own_line (event.Error e v (response.Module a)) apart free = nothing_said
      own_line (event.Error error.DeadlineMissed v (response.Partition a)) apart free = by_response a
      own_line (event.Error error.HardwareFault v (response.Partition a)) apart free = by_response a
      own_line (event.Error error.ApplicationError v (response.Partition a)) apart free = nothing_said
      own_line (event.Error error.NumericError v (response.Partition a)) apart free = nothing_said
      own_line (event.Error error.IllegalRequest v (response.Partition a)) apart free = nothing_said
      own_line (event.Error error.StackOverflow v (response.Partition a)) apart free = nothing_said
      own_line (event.Error error.MemoryViolation v (response.Partition a)) apart free = nothing_said
      own_line (event.Return v service code) apart free = nothing_said
      own_line (event.Report v words) apart free = nothing_said
      own_line (event.Move port words) apart free = nothing_said
      own_line (event.Arrive port words) apart free = nothing_said
      own_line (event.Lost port words) apart free = nothing_said
      own_line (event.Out channel words) apart free = nothing_said

      module_line : (kind : EventKind) → Goes z (next_of_all kind) held (says_module t kind) c
      module_line (event.Error e v response.Handler) = nothing_said
      module_line (event.Error e v (response.Partition a)) = nothing_said
      module_line (event.Error e v (response.Module reaction.Ignore)) = nothing_said
      module_line (event.Error e v (response.Module reaction.Shutdown)) = nothing_said
      module_line (event.Error e v (response.Module reaction.Reset)) = gone_now
      module_line (event.State v s) = nothing_said
      module_line (event.Mode m) = nothing_said
      module_line (event.Return v service code) = nothing_said
      module_line (event.Report v words) = nothing_said
      module_line (event.Move port words) = nothing_said
      module_line (event.Arrive port words) = nothing_said
      module_line (event.Lost port words) = nothing_said
      module_line (event.Out channel words) = nothing_said

      any_line : (name : List ℕ) (p : Option (List ℕ)) (kind : EventKind) → ToldApart who kind → IsFreeIn name t p z kind → Goes z (next_by p kind name (subject_text who)) held (said_by name t p z kind) c
      any_line name None kind apart free = module_line kind
      any_line name (Some other) kind apart free =
          subst (λ (b : Bool). Goes z (if b then next_in kind (subject_text who) else None) held (if same name other then says z t kind else t) c) (same_turned name other) (by_test (same name other) free)
        where
          by_test : (b : Bool) → IsFreeIf b z t kind → Goes z (if b then next_in kind (subject_text who) else None) held (if b then says z t kind else t) c
          by_test true f = own_line kind apart f
          by_test false f = nothing_said

    -- ---- a tick

    -- so many stays have the tick; if somebody is RUNNING, nobody has worked in it; and the state held has the tick, unless the runner has worked in it
    abbrev pub IsShown : ℕ → Told → Option Held → Type 0
    IsShown n u held =
        (n ≡ one_if (runs_told x who u)) × ((y : Subject) → u.running ≡ Some y → worked_in x u.worked ≡ None)
        × ((h : Held) → held ≡ Some h → (h.since.0 ≤ x) ⊎ ((h.since.0 ≡ suc x) × (is_it who (worked_in x u.worked) ≡ true)))

    at_last : (held : Option Held) (t : Told) (c : ℕ) → Told_at x held t c → c + shows_now held ≡ one_if (runs_told x who t)
    at_last held t c h = by_test (is_it who t.running) refl
      where
        or_nothing : (a : Bool) → (a || false) ≡ a
        or_nothing true = refl
        or_nothing false = refl

        resting : (o : Option Held) → is_run o ≡ false → shows_now o ≡ 0
        resting None e = refl
        resting (Some k) e = ap one_if (and_left (is_running k.state) (nat_le k.since.0 x) e)

        running : (o : Option Held) → held ≡ o → is_run o ≡ true → worked_in x t.worked ≡ None → shows_now o ≡ 1
        running None f g none = absurd (false≢true g)
        running (Some k) f g none =
            let low = since_free x (omega arith) held t.running t.worked c h none k f in
            ap (λ (b : Bool). one_if (b && nat_le k.since.0 x)) g ∙ ap one_if (le-leb k.since.0 x low)

        by_test : (b : Bool) → is_it who t.running ≡ b → c + shows_now held ≡ one_if (b || is_it who (worked_in x t.worked))
        by_test false e = let k = resting held (h.runs ∙ e) in let a = h.count in omega (arith, k, a)
        by_test true e =
            let i = it_is x (omega arith) held t.running t.worked c h e in
            let j = i.1 in
            let none = h.free i.0 j.0 in
            let k = running held refl (h.runs ∙ e) none in
            let a : c ≡ 0 = h.count ∙ ap (λ (o : Option Subject). one_if (is_it who o)) none in
            omega (arith, k, a)

    shown_told : (lines : List Event) (until : ℕ) (name : List ℕ) (z : ℕ) (held : Option Held) (t : Told) (c : ℕ) → z ≤ x → x < until → AreInOrder z lines → AreToldApart who lines → RunInTurn name t lines → Told_at z held t c
        → IsShown (c + running_in x (stays_in lines until name (subject_text who) held)) (told_from name t (up_to x lines)) (state_after (up_to x lines) name (subject_text who) held)
    shown_told [] until name z held t c l u order apart free h =
        let a = late [] until name (subject_text who) held tt u in
        let k = later_tick z x held t.running t.worked c l h in
        (ap (λ (n : ℕ). c + n) a ∙ at_last held t c k, k.free, k.since)
    shown_told (e ∷ es) until name z held t c l u order apart free h =
        by_test (nat_lt x e.tick.0) refl
        (λ low k. shown_told es until name e.tick.0 (with_line e name (subject_text who) held) (reading.with_line name t e) (c + counted (stay_with (next_by e.partition e.kind name (subject_text who)) e.tick.0 held)) low u order.1 apart.1 free.1 k)
      where
        new : Option Held
        new = with_line e name (subject_text who) held

        over : ℕ
        over = counted (stay_with (next_by e.partition e.kind name (subject_text who)) e.tick.0 held)

        by_test : (b : Bool) → nat_lt x e.tick.0 ≡ b
            → (e.tick.0 ≤ x → Told_at e.tick.0 new (reading.with_line name t e) (c + over) → IsShown (c + over + running_in x (stays_in es until name (subject_text who) new)) (told_from name (reading.with_line name t e) (up_to x es)) (state_after (up_to x es) name (subject_text who) new))
            → IsShown (c + running_in x (stays_in (e ∷ es) until name (subject_text who) held)) (told_from name t (if b then [] else e ∷ up_to x es)) (state_after (if b then [] else e ∷ up_to x es) name (subject_text who) held)
        by_test true f later =
            let after = ltb-true x e.tick.0 f in
            let a = late (e ∷ es) until name (subject_text who) held (omega (arith, after), order.1) u in
            let k = later_tick z x held t.running t.worked c l h in
            (ap (λ (n : ℕ). c + n) a ∙ at_last held t c k, k.free, k.since)
        by_test false f later =
            let low : e.tick.0 ≤ x = ltb-false x e.tick.0 f in
            let there = later_tick z e.tick.0 held t.running t.worked c order.0 h in
            let next = next_by e.partition e.kind name (subject_text who) in
            let k = any_line e.tick.0 low held t c there name e.partition e.kind apart.0 free.0 in
            let rest = later low k in
            let parts = and_counted (stay_with next e.tick.0 held) (stays_in es until name (subject_text who) (with_line e name (subject_text who) held)) in
            let all = rest.0 in
            (omega (arith, all, parts), rest.1, rest.2)

module _ (lines : List Event) (until : ℕ) (name : List ℕ) (who : Subject) (x : ℕ) (own : HasOwnWord lines who) (order : AreInOrder 0 lines) (orderly : (told name lines).orderly ≡ true) (u : x < until) (few : x < MOST_TICKS) where
  begun : Runs x few who 0 None None None 0
  begun = record { runs = refl; count = refl; free = λ y e. absurd (none-some y e); since = λ k e. absurd (none-some k e); before = tt }

  ended : IsShown x few who (0 + running_in x (stays_in lines until name (subject_text who) None)) (told name (up_to x lines)) (state_after (up_to x lines) name (subject_text who) None)
  ended = shown_told x few who lines until name 0 None first_told 0 (omega arith) u order (own_word who lines own) (lines_in_turn name lines first_told orderly).1 begun

  pub runner_in : running_in x (stays_in lines until name (subject_text who) None) ≡ one_if (runs_told x who (told name (up_to x lines)))
  runner_in = let k = ended.0 in omega (arith, k)

  -- if somebody is RUNNING after the tick, nobody has worked in it
  pub works_alone : (y : Subject) → (told name (up_to x lines)).running ≡ Some y → worked_in x (told name (up_to x lines)).worked ≡ None
  works_alone = ended.1

  -- the state held has the tick, unless the runner has worked in it
  pub state_since : is_it who (worked_in x (told name (up_to x lines)).worked) ≡ false → (h : Held) → state_after (up_to x lines) name (subject_text who) None ≡ Some h → h.since.0 ≤ x
  state_since rests h e = elim (ended.2 h e) [ inl a ↦ a | inr a ↦ absurd (false≢true (sym rests ∙ a.1)) ]
