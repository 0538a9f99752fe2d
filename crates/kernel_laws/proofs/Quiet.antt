-- Ticks in which nothing happens change nothing: n of them are one jump.
use Rattle.kernel_laws.proofs.Prelude.{◌≡◌, inl, inr, ℕ, zero, suc, ◌+◌, ◌<◌, ◌≤◌, List, ◌∷◌, ◌++◌, refl, sym, ◌∙◌, arith, length, subst, slice_get, slice_set, option_map, none-some, same_Some, DeviceLine, At, PartitionId, PortId, Engine, Channel, at_number, with_ports, of_ports, of_processes, Plan, of_tick, Stepped, Course, still, ports_from, of_member, trace_from, module_tick, next_tick, moves_port, moves_ports, moves_ended, moves_so_many, steps, steps_member, ticks_owner, moves_and_ticks, then_goes, then_runs, inputs_all, Member, World, Moved, admits, moved, followed_by, with_world, tick, clearing_phase, treats_due, choice_phase, spends_chosen, messages_to_move, place_of_port, chooses_with_handler, nothing, tick_from, owner, ended, HasNothingDue}
use Rattle.std.proofs.Common.{[], ap}
use Rattle.std.specs.Prelude.{Option, Some, None}
use Rattle.kernel_meaning.specs.PortServices as arrival
use Rattle.module_meaning.specs.Module as meaning
use Rattle.module_meaning.specs.Module.{ports_of}
use Rattle.kernel_meaning.specs.Partition.{advances, spending_phase}
use Rattle.kernel_laws.specs.Quiet.{IsIdle, IsAtRest, IsStill, AreStill, HaveNoLines}

-- ---- a partition

abbrev pub stays : {C : Type 0} → World C → Moved C
stays w = record { world = w; lines = [] }

-- a tick in which nothing is due and the choice stays is the tick of the current runner
pub running_tick : {C : Type 0} (e : Engine C) (at : At) (w : World C) → chooses_with_handler w.kernel ≡ nothing w.kernel → HasNothingDue at w.kernel → tick e at w ≡ spends_chosen e at w.kernel.processes.running w
running_tick e at w chosen due =
    ap (λ s. followed_by (followed_by (followed_by (moved at e (of_processes w.kernel s) w) (clearing_phase e at (treats_due at w.kernel).clears)) (choice_phase e at)) (spending_phase e at)) due.treated
    ∙ ap (λ c. followed_by (followed_by (clearing_phase e at c w) (choice_phase e at)) (spending_phase e at)) due.clears
    ∙ ap (λ s. followed_by (moved at e s w) (spending_phase e at)) chosen

pub idle_tick : {C : Type 0} (e : Engine C) (at : At) (w : World C) → IsIdle w.kernel → HasNothingDue at w.kernel → tick e at w ≡ stays w
idle_tick e at w i due = running_tick e at w i.chosen due ∙ ap (λ o. spends_chosen e at o w) i.nobody

-- ---- a step of a member that changes nothing

set_itself : {A : Type 0} (xs : List A) (place : ℕ) (x : A) → slice_get xs place ≡ Some x → slice_set xs place x ≡ xs
set_itself [] place x e = refl
set_itself (y ∷ xs) zero x e = cc
set_itself (y ∷ xs) (suc place) x e = ap (λ l. y ∷ l) (set_itself xs place x e)

steps_found : {C : Type 0} (step : Member C → Moved C) (members : List (Member C)) (place : ℕ) (o : Option (Member C)) → slice_get members place ≡ o
    → ((x : Member C) → slice_get members place ≡ Some x → step x ≡ stays x.world) → steps_member step members place o ≡ still members
steps_found step members place None e h = refl
steps_found step members place (Some x) e h =
    ap (λ (m : Moved _). record { state = slice_set members place (with_world x m.world); lines = m.lines }) (h x e)
    ∙ ap (λ l. record { state = l; lines = [] }) (set_itself members place x e)

pub steps_still : {C : Type 0} (step : Member C → Moved C) (members : List (Member C)) (number : ℕ)
    → ((x : Member C) → at_number members number ≡ Some x → step x ≡ stays x.world) → steps step members number ≡ still members
steps_still step members zero h = refl
steps_still step members (suc place) h = steps_found step members place (slice_get members place) refl h

-- ---- of the module

still_at : {C : Type 0} (origin from limit : ℕ) (members : List (Member C)) (number : ℕ) (x : Member C) → AreStill origin from limit members → at_number members number ≡ Some x → IsStill origin from limit x.world.kernel
still_at origin from limit members zero x h e = absurd (none-some x e)
still_at origin from limit members (suc place) x h e = h place x e

admits_nothing : {C : Type 0} (at : At) (port : PortId) (x : Member C) → arrival.admits (with_ports x.world.kernel) (place_of_port port) ≡ nothing (with_ports x.world.kernel) → admits at port x ≡ stays x.world
admits_nothing at port x e = ap (λ s. moved at x.engine (of_ports x.world.kernel s) x.world) e

none_at : {A : Type 0} (n : ℕ) → let none : List A = [] in at_number none n ≡ None
none_at zero = refl
none_at (suc n) = refl

rests_at : {C : Type 0} (channels : List Channel) (at : At) (p : PartitionId) (port : PortId) (members : List (Member C))
    → ((x : Member C) → at_number members p.0 ≡ Some x → arrival.admits (with_ports x.world.kernel) (place_of_port port) ≡ nothing (with_ports x.world.kernel))
    → moves_so_many channels at p port members (Some 0) ≡ still members
rests_at channels at p port members h = steps_still (admits at port) members p.0 (λ x e. admits_nothing at port x (h x e))

rests : {C : Type 0} (channels : List Channel) (at : At) (p : PartitionId) (port : PortId) (members : List (Member C)) (x : Member C)
    → at_number members p.0 ≡ Some x → IsAtRest x.world.kernel port
    → moves_so_many channels at p port members (messages_to_move (at_number (ports_of x) port.0)) ≡ still members
rests channels at p port members x e (inl none) = ap (moves_so_many channels at p port members) none
rests channels at p port members x e (inr both) =
    ap (moves_so_many channels at p port members) both.0
    ∙ rests_at channels at p port members (λ y f. subst (λ (z : Member _). arrival.admits (with_ports z.world.kernel) (place_of_port port) ≡ nothing (with_ports z.world.kernel)) (same_Some x y (sym e ∙ f)) both.1)

rests_in : {C : Type 0} (channels : List Channel) (at : At) (p : PartitionId) (port : PortId) (members : List (Member C)) (o : Option (Member C)) (from limit : ℕ)
    → at_number members p.0 ≡ o → AreStill at.origin.0 from limit members
    → moves_so_many channels at p port members (messages_to_move (at_number (of_member [] ports_of o) port.0)) ≡ still members
rests_in channels at p port members None from limit e h = ap (λ o. moves_so_many channels at p port members (messages_to_move o)) (none_at port.0)
rests_in channels at p port members (Some x) from limit e h = rests channels at p port members x e ((still_at at.origin.0 from limit members p.0 x h e).ports port)

ports_rest : {C : Type 0} (n number : ℕ) (channels : List Channel) (at : At) (p : PartitionId) (members : List (Member C)) (from limit : ℕ) → AreStill at.origin.0 from limit members
    → moves_ports n number channels at p members ≡ still members
ports_rest zero number channels at p members from limit h = refl
ports_rest (suc n) number channels at p members from limit h =
    ap (λ (a : Stepped _). then_goes a (moves_ports n (number + 1) channels at p)) (rests_in channels at p (record { 0 = number }) members (at_number members p.0) from limit refl h)
    ∙ ports_rest n (number + 1) channels at p members from limit h

ended_rests : {C : Type 0} (channels : List Channel) (at : At) (members : List (Member C)) (o : Option ℕ) (from limit : ℕ) → AreStill at.origin.0 from limit members
    → moves_ended channels at members o ≡ still members
ended_rests channels at members None from limit h = refl
ended_rests channels at members (Some p) from limit h = ports_rest (length (ports_from members p)) 1 channels at (record { 0 = p }) members from limit h

owner_rests : {C : Type 0} (origin t : ℕ) (members : List (Member C)) (o : Option ℕ) (from limit : ℕ) → from ≤ t → t < limit → AreStill origin from limit members
    → ticks_owner (tick_from origin t) members o ≡ still members
owner_rests origin t members None from limit there below h = refl
owner_rests origin t members (Some p) from limit there below h =
    steps_still (advances (tick_from origin t)) members p (λ x e.
    let s = still_at origin from limit members p x h e in
    idle_tick x.engine (tick_from origin t) x.world s.idle (s.due t there below))

-- A tick before the limit, without lines of the devices, changes nothing and writes nothing.
pub still_tick : {C : Type 0} (plan : Plan) (devices : List DeviceLine) (origin t from limit : ℕ) (members : List (Member C)) → from ≤ t → t < limit → AreStill origin from limit members → of_tick t devices ≡ []
    → module_tick plan (tick_from origin t) devices members ≡ meaning.goes_on (tick_from origin t) (still members)
still_tick plan devices origin t from limit members there below h none =
    let at = tick_from origin t in
    ap (λ ls. then_runs (inputs_all plan at ls members) (moves_and_ticks plan)) none
    ∙ ap (λ a. meaning.goes_on at (then_goes a (λ ms. ticks_owner at ms (owner plan.schedule at)))) (ended_rests plan.channels at members (ended plan.schedule at) from limit h)
    ∙ ap (meaning.goes_on at) (owner_rests origin t members (owner plan.schedule at) from limit there below h)

-- n ticks before the limit, without lines of the devices, are one jump.
pub jump : {C : Type 0} (plan : Plan) (devices : List DeviceLine) (origin from limit : ℕ) (members : List (Member C)) → AreStill origin from limit members
    → (n m t : ℕ) → from ≤ t → t + n ≤ limit → HaveNoLines t (t + n) devices
    → trace_from plan devices (n + m) (Some (tick_from origin t)) members ≡ trace_from plan devices m (Some (tick_from origin (t + n))) members
jump plan devices origin from limit members h zero m t there within none =
    let same : 0 + m ≡ m = omega arith in
    let here : t ≡ t + 0 = omega arith in
    ap (λ k. trace_from plan devices k (Some (tick_from origin t)) members) same ∙ ap (λ u. trace_from plan devices m (Some (tick_from origin u)) members) here
jump plan devices origin from limit members h (suc n) m t start within none =
    let one_more : suc n + m ≡ suc (n + m) = omega arith in
    let there : t + 1 + n ≡ t + suc n = omega arith in
    ap (λ k. trace_from plan devices k (Some (tick_from origin t)) members) one_more
    ∙ ap (λ (r : Course _). r.lines ++ trace_from plan devices (n + m) (option_map next_tick r.at) r.state) (still_tick plan devices origin t from limit members start (omega (arith, within)) h (none t (omega arith) (omega arith)))
    ∙ jump plan devices origin from limit members h n m (t + 1) (omega (arith, start)) (omega (arith, within)) (λ u above below. none u (omega (arith, above)) (omega (arith, below)))
    ∙ ap (λ u. trace_from plan devices m (Some (tick_from origin u)) members) there
