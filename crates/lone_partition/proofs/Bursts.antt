-- Many ticks of a lone partition together.
use Rattle.lone_partition.proofs.Prelude.{◌≡◌, ℕ, zero, suc, ◌+◌, ◌<◌, ◌≤◌, Bool, true, false, List, [], ◌++◌, length, Option, Some, None, refl, sym, ap, subst, ◌∙◌, append_assoc, arith, option_map, is_some, Event, At, PortId, next_tick, ports_of, Member, moved, at_tick, owner, ended, Stepped, Course, Surroundings, then_goes, alone_from, goes, inputs_in, goes_on, sends_ended, sends_ports, sends_so_many, still, tick_alone, ticks_own, InputLine, IsStill, AreFrom, inputs_of, tick_of_input, IsMade, IsWithin, LeadsTo, HasRun, Sent, ticks_by}
use Rattle.std.proofs.Common.{inl, inr}
use Rattle.kernel_meaning.specs.Kernel.{of_ports}
use Rattle.kernel_meaning.specs.Partition.{Moved, advances, with_world, tick}
use Rattle.kernel_meaning.specs.Windows.{tick_from}
use Rattle.isolation.specs.Alone.{sends_port}
use Rattle.kernel_laws.specs.Quiet.{IsAtRest}
use Rattle.kernel_laws.proofs.Quiet.{idle_tick}
use Rattle.lone_partition.proofs.LinesOfTicks.{inputs_are, none_before}
use Rattle.lone_partition.proofs.Outputs.{CompletesLines, lines_go_on, nothing_sent}
use Rattle.lone_partition.specs.Pieces.{HasRunSome}

-- the partition gets no input in the ticks from `from` on, before `limit`
abbrev pub HaveNoInputs : ℕ → ℕ → List InputLine → Type 0
HaveNoInputs from limit inputs = (t : ℕ) → from ≤ t → t < limit → inputs_in t inputs ≡ []

module _ {C : Type 0} (s : Surroundings) where
  -- ---- a tick in which nothing happens

  port_rests : (at : At) (x : Member C) (port : PortId) → IsAtRest x.world.kernel port → sends_port s at port x ≡ still x
  port_rests at x port (inl none) = ap (sends_so_many s at port x) none
  port_rests at x port (inr both) =
      ap (sends_so_many s at port x) both.0
      ∙ ap (λ k. goes (λ (y : Member C). moved at x.engine (of_ports x.world.kernel k) x.world) x) both.1

  ports_rest : (n number : ℕ) (at : At) (x : Member C) → ((port : PortId) → IsAtRest x.world.kernel port) → sends_ports n number s at x ≡ still x
  ports_rest zero number at x h = refl
  ports_rest (suc n) number at x h =
      ap (λ (g : Stepped (Member C)). then_goes g (sends_ports n (number + 1) s at)) (port_rests at x (record { 0 = number }) (h (record { 0 = number })))
      ∙ ports_rest n (number + 1) at x h

  ended_rests : (at : At) (x : Member C) (b : Bool) → ((port : PortId) → IsAtRest x.world.kernel port) → sends_ended s at x b ≡ still x
  ended_rests at x true h = ports_rest (length (ports_of x)) 1 at x h
  ended_rests at x false h = refl

  owner_rests : (at : At) (x : Member C) (b : Bool) → tick x.engine at x.world ≡ record { world = x.world; lines = [] } → ticks_own at x b ≡ still x
  owner_rests at x true h = ap (λ (m : Moved C). goes (λ (y : Member C). m) x) h
  owner_rests at x false h = refl

  -- a tick before the limit without an input changes nothing and writes nothing
  still_tick : (inputs : List InputLine) (origin t from limit : ℕ) (x : Member C) → from ≤ t → t < limit → IsStill origin from limit x.world.kernel → inputs_in t inputs ≡ []
      → tick_alone s (tick_from origin t) (inputs_in t inputs) x ≡ goes_on (tick_from origin t) (still x)
  still_tick inputs origin t from limit x there below h none =
      let at = tick_from origin t in
      ap (λ is. tick_alone s at is x) none
      ∙ ap (λ (g : Stepped (Member C)). goes_on at (then_goes g (λ y. ticks_own at y (is_some (owner s.schedule at))))) (ended_rests at x (is_some (ended s.schedule at)) h.ports)
      ∙ ap (goes_on at) (owner_rests at x (is_some (owner s.schedule at)) (idle_tick x.engine at x.world h.idle (h.due t there below)))

  -- n ticks that each leave the partition unchanged are one jump
  still_ticks : (inputs : List InputLine) (origin n m t : ℕ) (x : Member C)
      → ((i : ℕ) → i < n → tick_alone s (tick_from origin (t + i)) (inputs_in (t + i) inputs) x ≡ goes_on (tick_from origin (t + i)) (still x))
      → alone_from s inputs (n + m) (Some (tick_from origin t)) x ≡ alone_from s inputs m (Some (tick_from origin (t + n))) x
  still_ticks inputs origin zero m t x h =
      let same : 0 + m ≡ m = omega arith in
      let here : t ≡ t + 0 = omega arith in
      ap (λ k. alone_from s inputs k (Some (tick_from origin t)) x) same ∙ ap (λ u. alone_from s inputs m (Some (tick_from origin u)) x) here
  still_ticks inputs origin (suc n) m t x h =
      let one_more : suc n + m ≡ suc (n + m) = omega arith in
      let now : t + 0 ≡ t = omega arith in
      let there : t + 1 + n ≡ t + suc n = omega arith in
      let first = subst (λ u. tick_alone s (tick_from origin u) (inputs_in u inputs) x ≡ goes_on (tick_from origin u) (still x)) now (h 0 (omega arith)) in
      let next : (i : ℕ) → i < n → tick_alone s (tick_from origin (t + 1 + i)) (inputs_in (t + 1 + i) inputs) x ≡ goes_on (tick_from origin (t + 1 + i)) (still x) = λ i below.
      let u : t + suc i ≡ t + 1 + i = omega arith in
      subst (λ u. tick_alone s (tick_from origin u) (inputs_in u inputs) x ≡ goes_on (tick_from origin u) (still x)) u (h (suc i) (omega (arith, below))) in
      ap (λ k. alone_from s inputs k (Some (tick_from origin t)) x) one_more
      ∙ ap (λ (r : Course (Member C)). r.lines ++ alone_from s inputs (n + m) (option_map next_tick r.at) r.state) first
      ∙ still_ticks inputs origin n m (t + 1) x next
      ∙ ap (λ u. alone_from s inputs m (Some (tick_from origin u)) x) there

  pub leads_still : (inputs : List InputLine) (n origin now : ℕ) (x : Member C) → HaveNoInputs now (now + n) inputs → IsStill origin now (now + n) x.world.kernel → LeadsTo s inputs n (tick_from origin now) x [] x
  leads_still inputs n origin now x none still m =
      still_ticks inputs origin n m now x (λ i below. still_tick inputs origin (now + i) now (now + n) x (omega arith) (omega (arith, below)) still (none (now + i) (omega arith) (omega (arith, below))))

  -- ---- a tick without an owner

  within_tick : (inputs : List InputLine) (origin t : ℕ) (owns : Option ℕ) (x : Member C) → IsWithin s inputs origin t owns
      → tick_alone s (tick_from origin t) (inputs_in t inputs) x ≡ goes_on (tick_from origin t) (ticks_own (tick_from origin t) x (is_some owns))
  within_tick inputs origin t owns x h =
      let at = tick_from origin t in
      ap (λ is. tick_alone s at is x) h.inputs
      ∙ ap (λ o. goes_on at (then_goes (sends_ended s at x (is_some o)) (λ y. ticks_own at y (is_some (owner s.schedule at))))) h.ended
      ∙ ap (λ o. goes_on at (ticks_own at x (is_some o))) h.owner

  pub leads_empty : (inputs : List InputLine) (n origin now : ℕ) (x : Member C) → ((i : ℕ) → i < n → IsWithin s inputs origin (now + i) None) → LeadsTo s inputs n (tick_from origin now) x [] x
  leads_empty inputs n origin now x h m =
      still_ticks inputs origin n m now x (λ i below. within_tick inputs origin (now + i) None x (h i below))

  -- ---- a piece of the partition's window

  first_tick : (inputs : List InputLine) (origin number k t : ℕ) (x : Member C) → IsWithin s inputs origin t (Some number)
      → alone_from s inputs (suc k) (Some (tick_from origin t)) x ≡ (advances (tick_from origin t) x).lines ++ alone_from s inputs k (Some (tick_from origin (t + 1))) (with_world x (advances (tick_from origin t) x).world)
  first_tick inputs origin number k t x h =
      ap (λ (r : Course (Member C)). r.lines ++ alone_from s inputs k (option_map next_tick r.at) r.state) (within_tick inputs origin t (Some number) x h)

  -- while its window continues and no input comes, ticks of the lone partition are its ticks
  leads_on : (inputs : List InputLine) (origin number n m t : ℕ) (x : Member C) → ((i : ℕ) → i < n → IsWithin s inputs origin (t + i) (Some number))
      → let b = ticks_by n (tick_from origin t) x in
      alone_from s inputs (n + m) (Some (tick_from origin t)) x ≡ b.lines ++ alone_from s inputs m (Some (tick_from origin (t + n))) (with_world x b.world)
  leads_on inputs origin number zero m t x h =
      let same : 0 + m ≡ m = omega arith in
      let here : t ≡ t + 0 = omega arith in
      ap (λ k. alone_from s inputs k (Some (tick_from origin t)) x) same ∙ ap (λ u. alone_from s inputs m (Some (tick_from origin u)) x) here
  leads_on inputs origin number (suc n) m t x h =
      let now : t + 0 ≡ t = omega arith in
      let one_more : suc n + m ≡ suc (n + m) = omega arith in
      let there : t + 1 + n ≡ t + suc n = omega arith in
      let k = advances (tick_from origin t) x in
      let y = with_world x k.world in
      let b = ticks_by n (tick_from origin (t + 1)) y in
      let rest : ℕ → List Event = λ u. alone_from s inputs m (Some (tick_from origin u)) (with_world x b.world) in
      let next : (i : ℕ) → i < n → IsWithin s inputs origin (t + 1 + i) (Some number) = λ i below.
      let u : t + suc i ≡ t + 1 + i = omega arith in subst (λ v. IsWithin s inputs origin v (Some number)) u (h (suc i) (omega (arith, below))) in
      ap (λ j. alone_from s inputs j (Some (tick_from origin t)) x) one_more
      ∙ first_tick inputs origin number (n + m) t x (subst (λ u. IsWithin s inputs origin u (Some number)) now (h 0 (omega arith)))
      ∙ ap (λ (ls : List Event). k.lines ++ ls) (leads_on inputs origin number n m (t + 1) y next)
      ∙ ap (λ u. k.lines ++ (b.lines ++ rest u)) there
      ∙ sym (append_assoc k.lines b.lines (rest (t + suc n)))

-- ---- the lines of the inputs

none_comes : (t u : ℕ) (ls : List InputLine) → t < u → AreFrom tick_of_input u ls → inputs_in t ls ≡ []
none_comes t u ls below order = inputs_are t ls ∙ ap inputs_of (none_before tick_of_input t u ls below order)

-- no input comes in k ticks, all of them before a change
pub is_within : (s : Surroundings) (lines : List InputLine) (k change : ℕ) (at : At) (owns : Option ℕ) → k ≤ change → AreFrom tick_of_input (at.now.0 + k) lines
    → ended s.schedule at ≡ None → ((i : ℕ) → 0 < i → i < change → ended s.schedule (at_tick at (at.now.0 + i)) ≡ None)
    → owner s.schedule at ≡ owns → ((i : ℕ) → i < change → owner s.schedule (at_tick at (at.now.0 + i)) ≡ owner s.schedule at)
    → (i : ℕ) → i < k → IsWithin s lines at.origin.0 (at.now.0 + i) owns
is_within s lines k change at owns few order over none is same zero below =
    let here : at.now.0 + 0 ≡ at.now.0 = omega arith in
    record {
      inputs = none_comes (at.now.0 + 0) (at.now.0 + k) lines (omega (arith, below)) order;
      ended = ap (λ t. ended s.schedule (at_tick at t)) here ∙ over;
      owner = same 0 (omega (arith, few, below)) ∙ is;
    }
is_within s lines k change at owns few order over none is same (suc i) below =
    record {
      inputs = none_comes (at.now.0 + suc i) (at.now.0 + k) lines (omega (arith, below)) order;
      ended = none (suc i) (omega arith) (omega (arith, few, below));
      owner = same (suc i) (omega (arith, few, below)) ∙ is;
    }

module _ {C : Type 0} (s : Surroundings) (lines : List InputLine) where
  -- ---- as the code meets them

  pub run_nothing : (k : ℕ) (at : At) (x : Member C) (sent : Sent) → HasRunSome s lines k at x x sent sent 0
  run_nothing k at x sent =
      let none : 0 ≤ k = omega arith in
      let here : at.now.0 ≡ at.now.0 + 0 = omega arith in
      let leads : LeadsTo s lines 0 at x [] x = λ m.
      let same : 0 + m ≡ m = omega arith in
      ap (λ k. alone_from s lines k (Some at) x) same ∙ ap (λ t. alone_from s lines m (Some (at_tick at t)) x) here in
      (none, record { told = []; leads = leads; sent = nothing_sent sent })

  pub run_still : (k : ℕ) (at : At) (x : Member C) (sent : Sent) → AreFrom tick_of_input (at.now.0 + k) lines → IsStill at.origin.0 at.now.0 (at.now.0 + k) x.world.kernel
      → HasRunSome s lines k at x x sent sent k
  run_still k at x sent order still =
      let all : k ≤ k = omega arith in
      let none : HaveNoInputs at.now.0 (at.now.0 + k) lines = λ t from below. none_comes t (at.now.0 + k) lines below order in
      (all, record { told = []; leads = leads_still s lines k at.origin.0 at.now.0 x none still; sent = nothing_sent sent })

  pub run_empty : (k : ℕ) (at : At) (x : Member C) (sent : Sent) → ((i : ℕ) → i < k → IsWithin s lines at.origin.0 (at.now.0 + i) None) → HasRunSome s lines k at x x sent sent k
  run_empty k at x sent h =
      let all : k ≤ k = omega arith in
      (all, record { told = []; leads = leads_empty s lines k at.origin.0 at.now.0 x h; sent = nothing_sent sent })

  pub run_piece : (k number n : ℕ) (at : At) (x y : Member C) (old new : Sent) → ((i : ℕ) → i < k → IsWithin s lines at.origin.0 (at.now.0 + i) (Some number))
      → n ≤ k → IsMade (goes (ticks_by n at) x) y old new → HasRunSome s lines k at x y old new n
  run_piece k number n at x y old new h within made =
      let b = ticks_by n at x in
      let leads : LeadsTo s lines n at x b.lines y = λ m.
      leads_on s lines at.origin.0 number n m at.now.0 x (λ i below. h i (omega (arith, below, within)))
      ∙ ap (λ (z : Member C). b.lines ++ alone_from s lines m (Some (at_tick at (at.now.0 + n))) z) (sym made.state) in
      (within, record { told = b.lines; leads = leads; sent = made.sent })

  -- some of fewer ticks are some of more
  pub run_fewer : (m k n : ℕ) (at : At) (x y : Member C) (old new : Sent) → m ≤ k → HasRunSome s lines m at x y old new n → HasRunSome s lines k at x y old new n
  run_fewer m k n at x y old new few h = let all : n ≤ k = let within : n ≤ m = h.0 in omega (arith, within, few) in (all, h.1)

  -- ---- the lines of a run

  pub runs_on : (whole : List Event) (left n k : ℕ) (at : At) (x y : Member C) (old mid new : Sent) → left ≡ n + k
      → CompletesLines whole (alone_from s lines left (Some at) x) old mid → HasRun s lines n at x y mid new
      → CompletesLines whole (alone_from s lines k (Some (at_tick at (at.now.0 + n))) y) old new
  runs_on whole left n k at x y old mid new count way h =
      lines_go_on whole (alone_from s lines left (Some at) x) h.told (alone_from s lines k (Some (at_tick at (at.now.0 + n))) y) old mid new
      (ap (λ j. alone_from s lines j (Some at) x) count ∙ h.leads k) way h.sent

  -- none of these ticks was made
  pub none_made : (whole : List Event) (left n : ℕ) (at : At) (x y : Member C) (old mid new : Sent) → n ≡ 0
      → CompletesLines whole (alone_from s lines left (Some at) x) old mid → HasRun s lines n at x y mid new
      → CompletesLines whole (alone_from s lines left (Some at) y) old new
  none_made whole left n at x y old mid new none way h =
      let same : left ≡ n + left = omega (arith, none) in
      let here : at.now.0 + n ≡ at.now.0 = omega (arith, none) in
      subst (λ t. CompletesLines whole (alone_from s lines left (Some (at_tick at t)) y) old new) here (runs_on whole left n left at x y old mid new same way h)
