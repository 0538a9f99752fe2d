-- The lines of a trace, one after another.
use Rattle.std.proofs.Common.{◌≡◌, ℕ, zero, suc, ◌+◌, ◌<◌, ◌≤◌, List, [], ◌∷◌, ◌++◌, length, Option, Some, None, refl, sym, ap, ◌∙◌, arith, append-nil, append_assoc}
use Rattle.std.specs.Prelude.{slice_get}
use Rattle.apex_types.specs.declared.event.Event.{Event}
use Rattle.trace_stays.specs.Following.{AreThere, HasFollowed, KeepsPlace, and_one, held_at, held_by, held_in, mode_at, mode_by, mode_held, mode_over, mode_stay_over, mode_stays_at, mode_stays_of, modes_left, partition_at, place_from, process_at, process_in, state_over, states_left, stay_over, stays_at, stays_of}
use Rattle.trace_stays.specs.Stays.{mode_ended, stay_left}
use Rattle.trace_stays.specs.Traces.{AreStaysOf, mode_behind_all, modes_in, state_after, stays_in}
use Rattle.trace_stays.specs.declared.lanes.Ended.{Ended}
use Rattle.trace_stays.specs.declared.lanes.Lanes.{Lanes}
use Rattle.trace_stays.specs.declared.lanes.PartitionLane.{PartitionLane}
use Rattle.trace_stays.specs.declared.lanes.ProcessLane.{ProcessLane}
use Rattle.trace_stays.specs.declared.stay.Held.{Held}
use Rattle.trace_stays.specs.declared.stay.HeldMode.{HeldMode}
use Rattle.trace_stays.specs.declared.stay.ModeStay.{ModeStay}
use Rattle.trace_stays.specs.declared.stay.Stay.{Stay}
use Rattle.trace_stays.proofs.Followed.{modes_two_at, no_modes_at, no_states_at, none_mode, none_over, one_mode, one_over, stays_two_at}

-- What was read and what the lines that are left will say is all.
pub record WillBe (events : List Event) (until : ℕ) (l : Lanes) (left : List Event) (ended : List Ended) : Type 0 where
  pub held : (name word : List ℕ) → state_after left name word (held_by name word l) ≡ state_after events name word None
  pub mode : (name : List ℕ) → mode_behind_all left name (mode_by name l) ≡ mode_behind_all events name None
  pub stays : (name word : List ℕ) → stays_of (process_at name word l) ended ++ stays_in left until name word (held_by name word l) ≡ stays_in events until name word None
  pub modes : (name : List ℕ) → mode_stays_of (partition_at name l.partitions.items) ended ++ modes_in left until name (mode_by name l) ≡ modes_in events until name None
  pub there : AreThere l ended

-- ---- before the first line

nobody : (l : Lanes) (name : List ℕ) → l.partitions.items ≡ [] → partition_at name l.partitions.items ≡ None
unfolding place_from
nobody l name none = ap (partition_at name) none

no_process : (l : Lanes) (name word : List ℕ) → l.partitions.items ≡ [] → process_at name word l ≡ None
no_process l name word none = ap (λ (o : Option ℕ). process_in o word l.processes.items) (nobody l name none)

no_state : (l : Lanes) (name word : List ℕ) → l.partitions.items ≡ [] → held_by name word l ≡ None
no_state l name word none = ap (λ (o : Option ℕ). held_at o l.processes.items) (no_process l name word none)

no_mode : (l : Lanes) (name : List ℕ) → l.partitions.items ≡ [] → mode_by name l ≡ None
no_mode l name none = ap (λ (o : Option ℕ). mode_at o l.partitions.items) (nobody l name none)

pub begins : (events : List Event) (until : ℕ) (l : Lanes) (ended : List Ended) → l.partitions.items ≡ [] → ended ≡ [] → WillBe events until l events ended
unfolding stays_at mode_stays_at
begins events until l ended none over = record {
  held = λ name word. ap (state_after events name word) (no_state l name word none);
  mode = λ name. ap (mode_behind_all events name) (no_mode l name none);
  stays = λ name word. ap (λ (ss : List Stay). ss ++ stays_in events until name word (held_by name word l)) (ap (λ (o : Option ℕ). stays_of o ended) (no_process l name word none))
      ∙ ap (stays_in events until name word) (no_state l name word none);
  modes = λ name. ap (λ (ss : List ModeStay). ss ++ modes_in events until name (mode_by name l)) (ap (λ (o : Option ℕ). mode_stays_of o ended) (nobody l name none))
      ∙ ap (modes_in events until name) (no_mode l name none);
  there = record { states = λ k past. ap (stays_at k) over; modes = λ k past. ap (mode_stays_at k) over };
}

-- ---- one line more

-- those that were over are of the same process still
still : (count : ℕ) (o p : Option ℕ) (es : List Ended) → KeepsPlace count o p → ((k : ℕ) → count ≤ k → stays_at k es ≡ []) → stays_of p es ≡ stays_of o es
still count (Some k) p es kept there = ap (λ (q : Option ℕ). stays_of q es) kept
still count None None es kept there = refl
still count None (Some k) es kept there = there k kept

still_modes : (count : ℕ) (o p : Option ℕ) (es : List Ended) → KeepsPlace count o p → ((k : ℕ) → count ≤ k → mode_stays_at k es ≡ []) → mode_stays_of p es ≡ mode_stays_of o es
still_modes count (Some k) p es kept there = ap (λ (q : Option ℕ). mode_stays_of q es) kept
still_modes count None None es kept there = refl
still_modes count None (Some k) es kept there = there k kept

-- the stays so far, the stay that is over now, and the rest
in_order : {A : Type 0} (new so_far now rest one : List A) → new ≡ so_far ++ one → now ≡ so_far → new ++ rest ≡ now ++ (one ++ rest)
in_order new so_far now rest one ended same = ap (λ xs. xs ++ rest) (ended ∙ ap (λ xs. xs ++ one) (sym same)) ∙ append_assoc now one rest

pub line_read : (events : List Event) (until : ℕ) (l new : Lanes) (e : Event) (es left : List Event) (before after : List Ended)
    → left ≡ e ∷ es → HasFollowed e l new before after → WillBe events until l left before → WillBe events until new es after
line_read events until l new e es left before after first followed will = record {
  held = λ name word. ap (state_after es name word) (followed.held name word) ∙ (ap (λ (xs : List Event). state_after xs name word (held_by name word l)) (sym first) ∙ will.held name word);
  mode = λ name. ap (mode_behind_all es name) (followed.mode name) ∙ (ap (λ (xs : List Event). mode_behind_all xs name (mode_by name l)) (sym first) ∙ will.mode name);
  stays = λ name word.
      let one = and_one (stay_over e.partition e.kind e.tick.0 name word (held_by name word l)) in
      let rest = stays_in es until name word (held_by name word new) in
      in_order (stays_of (process_at name word new) after) (stays_of (process_at name word new) before) (stays_of (process_at name word l) before) rest one (followed.ended name word)
      (sym (still (length l.processes.items) (process_at name word l) (process_at name word new) before (followed.places.process name word) will.there.states))
      ∙ (ap (λ (h : Option Held). stays_of (process_at name word l) before ++ (one ++ stays_in es until name word h)) (followed.held name word)
      ∙ (ap (λ (xs : List Event). stays_of (process_at name word l) before ++ stays_in xs until name word (held_by name word l)) (sym first) ∙ will.stays name word));
  modes = λ name.
      let one = and_one (mode_stay_over e.partition e.kind e.tick.0 name (mode_by name l)) in
      let rest = modes_in es until name (mode_by name new) in
      in_order (mode_stays_of (partition_at name new.partitions.items) after) (mode_stays_of (partition_at name new.partitions.items) before)
      (mode_stays_of (partition_at name l.partitions.items) before) rest one (followed.left name)
      (sym (still_modes (length l.partitions.items) (partition_at name l.partitions.items) (partition_at name new.partitions.items) before (followed.places.partition name) will.there.modes))
      ∙ (ap (λ (h : Option HeldMode). mode_stays_of (partition_at name l.partitions.items) before ++ (one ++ modes_in es until name h)) (followed.mode name)
      ∙ (ap (λ (xs : List Event). mode_stays_of (partition_at name l.partitions.items) before ++ modes_in xs until name (mode_by name l)) (sym first) ∙ will.modes name));
  there = followed.there will.there;
}

-- ---- where the trace ends

later_states : (n until : ℕ) (qs : List ProcessLane) (j : ℕ) → j < n → stays_at j (states_left n until qs) ≡ []
unfolding states_left stays_at
later_states n until [] j low = refl
later_states n until (lane ∷ qs) j low =
    stays_two_at j (state_over n (stay_left lane.watch.held until)) (states_left (n + 1) until qs)
    ∙ (ap (λ (ss : List Stay). ss ++ stays_at j (states_left (n + 1) until qs)) (none_over j n (stay_left lane.watch.held until) (λ e. omega (arith, low, e)))
    ∙ later_states (n + 1) until qs j (omega (arith, low)))

state_left_at : (n until : ℕ) (qs : List ProcessLane) (j : ℕ) → stays_at (n + j) (states_left n until qs) ≡ and_one (stay_left (held_in (slice_get qs j)) until)
unfolding states_left stays_at
state_left_at n until [] j = refl
state_left_at n until (lane ∷ qs) zero =
    let here : n + 0 ≡ n = omega arith in
    ap (λ (k : ℕ). stays_at k (states_left n until (lane ∷ qs))) here
    ∙ (stays_two_at n (state_over n (stay_left lane.watch.held until)) (states_left (n + 1) until qs)
    ∙ (ap (λ (ss : List Stay). ss ++ stays_at n (states_left (n + 1) until qs)) (one_over n (stay_left lane.watch.held until))
    ∙ (ap (λ (ss : List Stay). and_one (stay_left lane.watch.held until) ++ ss) (later_states (n + 1) until qs n (omega arith)) ∙ append-nil (and_one (stay_left lane.watch.held until)))))
state_left_at n until (lane ∷ qs) (suc j) =
    let there : n + suc j ≡ n + 1 + j = omega arith in
    ap (λ (k : ℕ). stays_at k (states_left n until (lane ∷ qs))) there
    ∙ (stays_two_at (n + 1 + j) (state_over n (stay_left lane.watch.held until)) (states_left (n + 1) until qs)
    ∙ (ap (λ (ss : List Stay). ss ++ stays_at (n + 1 + j) (states_left (n + 1) until qs)) (none_over (n + 1 + j) n (stay_left lane.watch.held until) (λ e. omega (arith, e)))
    ∙ state_left_at (n + 1) until qs j))

no_modes_in_states : (n until : ℕ) (qs : List ProcessLane) (j : ℕ) → mode_stays_at j (states_left n until qs) ≡ []
unfolding states_left mode_stays_at
no_modes_in_states n until [] j = refl
no_modes_in_states n until (lane ∷ qs) j =
    modes_two_at j (state_over n (stay_left lane.watch.held until)) (states_left (n + 1) until qs)
    ∙ (ap (λ (ss : List ModeStay). ss ++ mode_stays_at j (states_left (n + 1) until qs)) (no_states_at j n (stay_left lane.watch.held until)) ∙ no_modes_in_states (n + 1) until qs j)

later_modes : (n until : ℕ) (ps : List PartitionLane) (j : ℕ) → j < n → mode_stays_at j (modes_left n until ps) ≡ []
unfolding modes_left mode_stays_at
later_modes n until [] j low = refl
later_modes n until (lane ∷ ps) j low =
    modes_two_at j (mode_over n (mode_ended lane.watch.held until)) (modes_left (n + 1) until ps)
    ∙ (ap (λ (ss : List ModeStay). ss ++ mode_stays_at j (modes_left (n + 1) until ps)) (none_mode j n (mode_ended lane.watch.held until) (λ e. omega (arith, low, e)))
    ∙ later_modes (n + 1) until ps j (omega (arith, low)))

mode_left_at : (n until : ℕ) (ps : List PartitionLane) (j : ℕ) → mode_stays_at (n + j) (modes_left n until ps) ≡ and_one (mode_ended (mode_held (slice_get ps j)) until)
unfolding modes_left mode_stays_at
mode_left_at n until [] j = refl
mode_left_at n until (lane ∷ ps) zero =
    let here : n + 0 ≡ n = omega arith in
    ap (λ (k : ℕ). mode_stays_at k (modes_left n until (lane ∷ ps))) here
    ∙ (modes_two_at n (mode_over n (mode_ended lane.watch.held until)) (modes_left (n + 1) until ps)
    ∙ (ap (λ (ss : List ModeStay). ss ++ mode_stays_at n (modes_left (n + 1) until ps)) (one_mode n (mode_ended lane.watch.held until))
    ∙ (ap (λ (ss : List ModeStay). and_one (mode_ended lane.watch.held until) ++ ss) (later_modes (n + 1) until ps n (omega arith)) ∙ append-nil (and_one (mode_ended lane.watch.held until)))))
mode_left_at n until (lane ∷ ps) (suc j) =
    let there : n + suc j ≡ n + 1 + j = omega arith in
    ap (λ (k : ℕ). mode_stays_at k (modes_left n until (lane ∷ ps))) there
    ∙ (modes_two_at (n + 1 + j) (mode_over n (mode_ended lane.watch.held until)) (modes_left (n + 1) until ps)
    ∙ (ap (λ (ss : List ModeStay). ss ++ mode_stays_at (n + 1 + j) (modes_left (n + 1) until ps)) (none_mode (n + 1 + j) n (mode_ended lane.watch.held until) (λ e. omega (arith, e)))
    ∙ mode_left_at (n + 1) until ps j))

no_states_in_modes : (n until : ℕ) (ps : List PartitionLane) (j : ℕ) → stays_at j (modes_left n until ps) ≡ []
unfolding modes_left stays_at
no_states_in_modes n until [] j = refl
no_states_in_modes n until (lane ∷ ps) j =
    stays_two_at j (mode_over n (mode_ended lane.watch.held until)) (modes_left (n + 1) until ps)
    ∙ (ap (λ (ss : List Stay). ss ++ stays_at j (modes_left (n + 1) until ps)) (no_modes_at j n (mode_ended lane.watch.held until)) ∙ no_states_in_modes (n + 1) until ps j)

-- those of one process, and of one partition
rest_of : (until : ℕ) (ps : List PartitionLane) (qs : List ProcessLane) (o : Option ℕ) (ended : List Ended)
    → stays_of o ((ended ++ modes_left 0 until ps) ++ states_left 0 until qs) ≡ stays_of o ended ++ and_one (stay_left (held_at o qs) until)
rest_of until ps qs None ended = refl
rest_of until ps qs (Some k) ended =
    let start : 0 + k ≡ k = omega arith in
    stays_two_at k (ended ++ modes_left 0 until ps) (states_left 0 until qs)
    ∙ (ap (λ (ss : List Stay). ss ++ stays_at k (states_left 0 until qs))
    (stays_two_at k ended (modes_left 0 until ps) ∙ (ap (λ (ss : List Stay). stays_at k ended ++ ss) (no_states_in_modes 0 until ps k) ∙ append-nil (stays_at k ended)))
    ∙ ap (λ (ss : List Stay). stays_at k ended ++ ss) (ap (λ (j : ℕ). stays_at j (states_left 0 until qs)) (sym start) ∙ state_left_at 0 until qs k))

rest_of_modes : (until : ℕ) (ps : List PartitionLane) (qs : List ProcessLane) (o : Option ℕ) (ended : List Ended)
    → mode_stays_of o ((ended ++ modes_left 0 until ps) ++ states_left 0 until qs) ≡ mode_stays_of o ended ++ and_one (mode_ended (mode_at o ps) until)
rest_of_modes until ps qs None ended = refl
rest_of_modes until ps qs (Some k) ended =
    let start : 0 + k ≡ k = omega arith in
    modes_two_at k (ended ++ modes_left 0 until ps) (states_left 0 until qs)
    ∙ (ap (λ (ss : List ModeStay). mode_stays_at k (ended ++ modes_left 0 until ps) ++ ss) (no_modes_in_states 0 until qs k)
    ∙ (append-nil (mode_stays_at k (ended ++ modes_left 0 until ps))
    ∙ (modes_two_at k ended (modes_left 0 until ps)
    ∙ ap (λ (ss : List ModeStay). mode_stays_at k ended ++ ss) (ap (λ (j : ℕ). mode_stays_at j (modes_left 0 until ps)) (sym start) ∙ mode_left_at 0 until ps k))))

pub all_read : (events : List Event) (until : ℕ) (l : Lanes) (left : List Event) (ended after : List Ended) → left ≡ []
    → after ≡ (ended ++ modes_left 0 until l.partitions.items) ++ states_left 0 until l.processes.items → WillBe events until l left ended → AreStaysOf events until l after
all_read events until l left ended after none rest will = record {
  held = λ name word. ap (λ (xs : List Event). state_after xs name word (held_by name word l)) (sym none) ∙ will.held name word;
  mode = λ name. ap (λ (xs : List Event). mode_behind_all xs name (mode_by name l)) (sym none) ∙ will.mode name;
  stays = λ name word. ap (stays_of (process_at name word l)) rest
      ∙ (rest_of until l.partitions.items l.processes.items (process_at name word l) ended
      ∙ (ap (λ (xs : List Event). stays_of (process_at name word l) ended ++ stays_in xs until name word (held_by name word l)) (sym none) ∙ will.stays name word));
  modes = λ name. ap (mode_stays_of (partition_at name l.partitions.items)) rest
      ∙ (rest_of_modes until l.partitions.items l.processes.items (partition_at name l.partitions.items) ended
      ∙ (ap (λ (xs : List Event). mode_stays_of (partition_at name l.partitions.items) ended ++ modes_in xs until name (mode_by name l)) (sym none) ∙ will.modes name));
}
