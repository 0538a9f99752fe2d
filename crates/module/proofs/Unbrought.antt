-- Ticks in which nothing happens bring no partition anything.
use Rattle.module.proofs.Prelude.{◌≡◌, ◌⊎◌, inl, inr, ℕ, zero, suc, ◌+◌, ◌<◌, ◌≤◌, ℤ, Bool, true, false, if◌then◌else◌, List, ◌∷◌, ◌++◌, length, map, Option, Some, None, refl, sym, ap, ◌∙◌, arith, option_map, slice_get, none-some, same_Some, ArrayVec, DeviceLine, At, PartitionId, PortId, Channel, at_number, Course, Plan, inputs_all, module_tick, next_tick, of_member, of_tick, ports_of, Kernel, Port, is_source, Member, messages_to_move, ended, tick_from, AreStill, HaveNoLines, IsStill, Input, InputLine, brought_by, brought_in_all, brought_moved, brought_tick, held_port, held_ports, inputs_from, line_in, channel_from, BringsNothing, brought_of, HasSkippedSome, Standing, AreFrom}
use Rattle.std.proofs.Common.{[], subst}
use Rattle.std.specs.Prelude.{flat_map}
use Rattle.kernel_laws.specs.Quiet.{IsAtRest}
use Rattle.kernel_laws.proofs.Quiet.{still_tick}
use Rattle.isolation.specs.Brought.{held_ended}
use Rattle.module.proofs.Brought.{later_is}
use Rattle.module.proofs.Bursts.{from_lower, no_lines, standing_at}

-- ---- ports at rest

-- no message of a port can move
abbrev Rests : Option Port → Type 0
Rests o = (messages_to_move o ≡ None) ⊎ (messages_to_move o ≡ Some 0)

rests : (k : Kernel) (port : PortId) → IsAtRest k port → Rests (at_number k.ports.ports port.0)
rests k port (inl none) = inl none
rests k port (inr both) = inr both.0

nothing_held : (source : Bool) (f : ArrayVec ℤ → List Input) (ms : List (ArrayVec ℤ))
    → ((if source then Some (length ms) else None) ≡ None) ⊎ ((if source then Some (length ms) else None) ≡ Some 0) → (if source then flat_map f ms else []) ≡ []
nothing_held false f ms h = refl
nothing_held true f [] h = refl
nothing_held true f (m ∷ ms) (inl e) = absurd (none-some _ (sym e))
nothing_held true f (m ∷ ms) (inr e) = let none : length (m ∷ ms) ≡ 0 = same_Some _ _ e in absurd (omega (arith, none))

port_holds_nothing : (channels : List Channel) (p : ℕ) (q : PartitionId) (number : ℕ) (x : Port) → Rests (Some x) → held_port channels p q number x ≡ []
port_holds_nothing channels p q number x h = nothing_held (is_source x) (λ m. brought_by p m (channel_from channels q (record { 0 = number }))) x.messages h

ports_hold_nothing : (channels : List Channel) (p : ℕ) (q : PartitionId) (number : ℕ) (xs : List Port) → ((i : ℕ) → Rests (slice_get xs i)) → held_ports channels p q number xs ≡ []
ports_hold_nothing channels p q number [] h = refl
ports_hold_nothing channels p q number (x ∷ xs) h =
    ap (λ (is : List Input). is ++ held_ports channels p q (number + 1) xs) (port_holds_nothing channels p q number x (h 0))
    ∙ ports_hold_nothing channels p q (number + 1) xs (λ i. h (suc i))

still_at : {C : Type 0} (origin from limit : ℕ) (members : List (Member C)) (number : ℕ) (x : Member C) → AreStill origin from limit members → at_number members number ≡ Some x → IsStill origin from limit x.world.kernel
still_at origin from limit members zero x h e = absurd (none-some x e)
still_at origin from limit members (suc place) x h e = h place x e

found_holds_nothing : {C : Type 0} (channels : List Channel) (p : ℕ) (q : PartitionId) (members : List (Member C)) (o : Option (Member C)) (origin from limit : ℕ)
    → at_number members q.0 ≡ o → AreStill origin from limit members → held_ports channels p q 1 (of_member [] ports_of o) ≡ []
found_holds_nothing channels p q members None origin from limit e h = refl
found_holds_nothing channels p q members (Some x) origin from limit e h =
    let k = x.world.kernel in
    ports_hold_nothing channels p q 1 (ports_of x) (λ i. rests k (record { 0 = suc i }) ((still_at origin from limit members q.0 x h e).ports (record { 0 = suc i })))

-- ---- a tick

ended_brings : {C : Type 0} (channels : List Channel) (p : ℕ) (members : List (Member C)) (o : Option ℕ) (origin from limit : ℕ) → AreStill origin from limit members
    → held_ended channels p members o ≡ []
ended_brings channels p members None origin from limit h = refl
ended_brings channels p members (Some q) origin from limit h = found_holds_nothing channels p (record { 0 = q }) members (at_number members q) origin from limit refl h

-- the inputs that a tick brings by these lines, which are all of it
abbrev by_lines : {C : Type 0} → Plan → ℕ → At → List (Member C) → List DeviceLine → List Input
by_lines plan p at ms lines = let c = inputs_all plan at lines ms in brought_in_all plan p lines ++ brought_moved plan p c.state c.at

still_brings : {C : Type 0} (plan : Plan) (p : ℕ) (devices : List DeviceLine) (origin t from limit : ℕ) (members : List (Member C)) → AreStill origin from limit members → of_tick t devices ≡ []
    → brought_tick plan p (tick_from origin t) devices members ≡ []
still_brings plan p devices origin t from limit members h none =
    ap (by_lines plan p (tick_from origin t) members) none ∙ ended_brings plan.channels p members (ended plan.schedule (tick_from origin t)) origin from limit h

-- ---- many ticks

unbrought : {C : Type 0} (plan : Plan) (p : ℕ) (devices : List DeviceLine) (origin from limit : ℕ) (members : List (Member C)) → AreStill origin from limit members
    → (n m t : ℕ) → from ≤ t → t + n ≤ limit → HaveNoLines t (t + n) devices
    → inputs_from plan p devices (n + m) (Some (tick_from origin t)) members ≡ inputs_from plan p devices m (Some (tick_from origin (t + n))) members
unbrought plan p devices origin from limit members h zero m t there within none =
    let same : 0 + m ≡ m = omega arith in
    let here : t ≡ t + 0 = omega arith in
    ap (λ k. inputs_from plan p devices k (Some (tick_from origin t)) members) same ∙ ap (λ u. inputs_from plan p devices m (Some (tick_from origin u)) members) here
unbrought plan p devices origin from limit members h (suc n) m t start within none =
    let one_more : suc n + m ≡ suc (n + m) = omega arith in
    let there : t + 1 + n ≡ t + suc n = omega arith in
    let own = none t (omega arith) (omega arith) in
    let next = module_tick plan (tick_from origin t) devices members in
    ap (λ k. inputs_from plan p devices k (Some (tick_from origin t)) members) one_more
    ∙ ap (λ (is : List Input). map (line_in t) is ++ inputs_from plan p devices (n + m) (option_map next_tick next.at) next.state) (still_brings plan p devices origin t from limit members h own)
    ∙ ap (λ (r : Course _). inputs_from plan p devices (n + m) (option_map next_tick r.at) r.state) (still_tick plan devices origin t from limit members start (omega (arith, within)) h own)
    ∙ unbrought plan p devices origin from limit members h n m (t + 1) (omega (arith, start)) (omega (arith, within)) (λ u above below. none u (omega (arith, above)) (omega (arith, below)))
    ∙ ap (λ u. inputs_from plan p devices m (Some (tick_from origin u)) members) there

still_brings_nothing : {C : Type 0} (plan : Plan) (p : ℕ) (lines : List DeviceLine) (n now origin : ℕ) (ms : List (Member C)) → 0 < now → AreFrom (now + n) lines → AreStill origin now (now + n) ms
    → BringsNothing plan p lines n (standing_at ms now origin) (standing_at ms (now + n) origin)
still_brings_nothing plan p lines n now origin ms begun order still m =
    later_is plan p lines (n + m) now ms (Some origin) begun
    ∙ unbrought plan p lines origin now (now + n) ms still n m now (omega arith) (omega arith) (no_lines now (now + n) lines order)
    ∙ sym (later_is plan p lines m (now + n) ms (Some origin) (omega (arith, begun)))

-- as the code meets them
pub skipped_bring_nothing : {C : Type 0} (plan : Plan) (p : ℕ) (lines : List DeviceLine) (n t origin : ℕ) (s : Standing C) → t ≡ s.now → s.origin ≡ Some origin
    → 0 < t → AreFrom (t + n) lines → AreStill origin t (t + n) s.members
    → BringsNothing plan p lines n s (record { members = s.members; now = s.now + n; origin = s.origin })
skipped_bring_nothing plan p lines n t origin s here from begun order still =
    subst (λ (o : Option ℕ). BringsNothing plan p lines n (record { members = s.members; now = s.now; origin = o }) (record { members = s.members; now = s.now + n; origin = o })) (sym from)
    (subst (λ u. BringsNothing plan p lines n (standing_at s.members u origin) (standing_at s.members (u + n) origin)) here (still_brings_nothing plan p lines n t origin s.members begun order still))

-- the device lines are still ahead
pub lines_ahead : {C : Type 0} (plan : Plan) (lines : List DeviceLine) (k t n : ℕ) (s next : Standing C) → t ≡ s.now → AreFrom (t + k) lines → HasSkippedSome plan k s next n → AreFrom next.now lines
lines_ahead plan lines k t n s next here order h =
    let lower : next.now ≤ t + k = let within : n ≤ k = h.0 in let later : next.now ≡ s.now + n = h.1 in omega (arith, within, later, here) in
    from_lower next.now (t + k) lines lower order

-- the inputs so far, after ticks that bring nothing
pub brought_after : {C : Type 0} (plan : Plan) (p : ℕ) (lines : List DeviceLine) (whole so_far : List InputLine) (left n rest : ℕ) (s next : Standing C) → left ≡ n + rest
    → whole ≡ so_far ++ brought_of plan p lines left s → BringsNothing plan p lines n s next → whole ≡ so_far ++ brought_of plan p lines rest next
brought_after plan p lines whole so_far left n rest s next count all h =
    all ∙ ap (λ (is : List InputLine). so_far ++ is) (ap (λ k. brought_of plan p lines k s) count ∙ h rest)
