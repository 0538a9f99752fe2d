-- One tick of the module is one tick of each of its partitions on its own.
use Rattle.isolation.proofs.Prelude.{◌≡◌, ◌≢◌, ℕ, suc, Bool, true, false, List, length, Option, Some, None, sym, ◌∙◌, ◌==◌, is_some, eqb-true, eqb-false, DeviceLine, At, PortRow, Plan, Stepped, Course, goes_on, then_goes, steps, ports_from, moves_and_ticks, module_tick, inputs_all, of_tick, Member, advances, owner, ended, Input, Surroundings, goes, then_runs, takes_all, sends_ended, ticks_own, sends_and_ticks, tick_alone, brought_in_all, brought_moved, brought_tick, surroundings_of}
use Rattle.std.proofs.Common.{refl, ap, subst}
use Rattle.module_meaning.specs.Module.{moves_ended, ticks_owner}
use Rattle.isolation.proofs.Twins.{brought_ended}
use Rattle.isolation.proofs.Held.{ended_held}
use Rattle.isolation.proofs.Kept.{advances_keeps}
use Rattle.isolation.proofs.Lines.{AreFromDevice, of_tick_from, lines_same}
use Rattle.isolation.proofs.Messages.{other_ports}
use Rattle.isolation.proofs.OwnMessages.{AreLawful, AreWays, with_number, nothing_ports, own_all}
use Rattle.isolation.proofs.OwnWindows.{is_number}
use Rattle.isolation.proofs.Paths.{takes_append, runs_assoc}
use Rattle.isolation.proofs.Steps.{IsApart, AreApart, Holds, Same, SamePath, still_same, steps_own, steps_other, then_same, goes_on_same, runs_same, then_path_at}

-- What isolation requires of a plan, for the partition with a number: its windows are distinct from
-- the others', and its channels lead to others.
pub record IsIsolating (plan : Plan) (p : ℕ) (rows : List PortRow) : Type 0 where
  pub channels : (q : ℕ) → AreLawful q plan.channels
  pub ways : AreWays plan.channels p (surroundings_of plan p rows)
  pub all_ways : (q : ℕ) → (s : Surroundings) × AreWays plan.channels q s
  pub owns : (at : At) → is_some (owner (surroundings_of plan p rows).schedule at) ≡ is_number p (owner plan.schedule at)
  pub ends : (at : At) → is_some (ended (surroundings_of plan p rows).schedule at) ≡ is_number p (ended plan.schedule at)

module _ {C : Type 0} (name : List ℕ) (place : ℕ) (names : List (List ℕ)) (apart : IsApart name place names) (all : AreApart names) (plan : Plan) (rows : List PortRow) (plain : IsIsolating plan (suc place) rows) where
  abbrev Is : List (Member C) → Member C → Type 0
  Is ms x = Holds {C = C} name place names apart ms x

  abbrev Both : Stepped (List (Member C)) → Stepped (Member C) → Type 0
  Both a g = Same {C = C} name place names apart a g

  abbrev Goes : Course (List (Member C)) → Course (Member C) → Type 0
  Goes c d = SamePath {C = C} name place names apart c d

  owner_step : (at : At) (q : ℕ) (ms : List (Member C)) (x : Member C) → Is ms x → (b : Bool) → (q == suc place) ≡ b → Both (steps (advances at) ms q) (ticks_own at x b)
  owner_step at q ms x h true e =
      subst (λ (n : ℕ). Both (steps (advances at) ms n) (goes (advances at) x)) (sym (eqb-true q (suc place) e)) (steps_own name place names apart (advances at) (advances_keeps at) ms x h)
  owner_step at q ms x h false e = steps_other name place names apart (advances at) (advances_keeps at) q (eqb-false q (suc place) e) ms x h

  owner_same : (at : At) (o : Option ℕ) (ms : List (Member C)) (x : Member C) → Is ms x → Both (ticks_owner at ms o) (ticks_own at x (is_number (suc place) o))
  owner_same at None ms x h = still_same name place names apart ms x h
  owner_same at (Some q) ms x h = owner_step at q ms x h (q == suc place) refl

  -- a tick of the partition if it is known whether its window has ended, and whether it owns the
  -- tick
  abbrev goes_alone : At → Bool → Bool → Member C → Course (Member C)
  goes_alone at ends owns x = goes_on at (then_goes (sends_ended (surroundings_of plan (suc place) rows) at x ends) (λ y. ticks_own at y owns))

  as_known : (at : At) (b : Bool) → is_number (suc place) (ended plan.schedule at) ≡ b → (x : Member C)
      → sends_and_ticks (surroundings_of plan (suc place) rows) at x ≡ goes_alone at b (is_number (suc place) (owner plan.schedule at)) x
  as_known at b k x =
      ap (λ (b : Bool). goes_alone at b (is_some (owner (surroundings_of plan (suc place) rows).schedule at)) x) (plain.ends at ∙ k)
      ∙ ap (λ (c : Bool). goes_alone at b c x) (plain.owns at)

  abbrev owner_ticks : At → List (Member C) → Stepped (List (Member C))
  owner_ticks at ms = ticks_owner at ms (owner plan.schedule at)

  -- the inputs that a window brings at its end, then the tick
  abbrev Second : At → List (Member C) → Member C → Option ℕ → Type 0
  Second at ms x e =
      Goes (goes_on at (then_goes (moves_ended plan.channels at ms e) (owner_ticks at)))
      (then_runs (takes_all plan.fault at (brought_ended plan.channels (suc place) at ms e) x) (sends_and_ticks (surroundings_of plan (suc place) rows)))

  -- only the tick, if its own window has not ended
  ticks_alone : (at : At) → is_number (suc place) (ended plan.schedule at) ≡ false → (ms : List (Member C)) (x : Member C) → Is ms x → Goes (goes_on at (owner_ticks at ms)) (sends_and_ticks (surroundings_of plan (suc place) rows) at x)
  ticks_alone at k ms x h =
      subst (λ (d : Course (Member C)). Goes (goes_on at (owner_ticks at ms)) d) (sym (as_known at false k x))
      (goes_on_same name place names apart at (owner_ticks at ms) (ticks_own at x (is_number (suc place) (owner plan.schedule at))) (owner_same at (owner plan.schedule at) ms x h))

  own_ends : (at : At) → is_number (suc place) (ended plan.schedule at) ≡ true → (ms : List (Member C)) (x : Member C) → Is ms x → Second at ms x (Some (suc place))
  own_ends at k ms x h =
      let both = then_goes (moves_ended plan.channels at ms (Some (suc place))) (owner_ticks at) in
      subst (λ (is : List Input). Goes (goes_on at both) (then_runs (takes_all plan.fault at is x) (sends_and_ticks (surroundings_of plan (suc place) rows))))
      (sym (nothing_ports (suc place) plan.channels (plain.channels (suc place)) at (length (ports_from ms (suc place))) 1 ms))
      (subst (λ (d : Course (Member C)). Goes (goes_on at both) d) (sym (as_known at true k x))
      (goes_on_same name place names apart at both (then_goes (sends_ended (surroundings_of plan (suc place) rows) at x true) (λ y. ticks_own at y (is_number (suc place) (owner plan.schedule at))))
      (then_same name place names apart (moves_ended plan.channels at ms (Some (suc place))) (sends_ended (surroundings_of plan (suc place) rows) at x true) (owner_ticks at) (λ y. ticks_own at y (is_number (suc place) (owner plan.schedule at)))
      (own_all name place names apart plan.channels at (plain.channels (suc place)) (surroundings_of plan (suc place) rows) plain.ways ms x h)
      (λ ns y k. owner_same at (owner plan.schedule at) ns y k))))

  other_ends : (at : At) → is_number (suc place) (ended plan.schedule at) ≡ false → (q : ℕ) → q ≢ suc place → (ms : List (Member C)) (x : Member C) → Is ms x → Second at ms x (Some q)
  other_ends at k q n ms x h =
      then_path_at name place names apart at (moves_ended plan.channels at ms (Some q)) (takes_all plan.fault at (brought_ended plan.channels (suc place) at ms (Some q)) x) (owner_ticks at) (sends_and_ticks (surroundings_of plan (suc place) rows))
      (other_ports name place names apart plan.fault plan.channels at (with_number q) n (length (ports_from ms q)) 1 ms x h)
      (λ y l. ticks_alone at k (moves_ended plan.channels at ms (Some q)).state y l)

  some_ends : (at : At) (q : ℕ) (b : Bool) → (q == suc place) ≡ b → is_number (suc place) (ended plan.schedule at) ≡ b → (ms : List (Member C)) (x : Member C) → Is ms x → Second at ms x (Some q)
  some_ends at q true e k ms x h = subst (λ (n : ℕ). Second at ms x (Some n)) (sym (eqb-true q (suc place) e)) (own_ends at k ms x h)
  some_ends at q false e k ms x h = other_ends at k q (eqb-false q (suc place) e) ms x h

  ended_known : (at : At) (e : Option ℕ) → is_number (suc place) (ended plan.schedule at) ≡ is_number (suc place) e → (ms : List (Member C)) (x : Member C) → Is ms x → Second at ms x e
  ended_known at None k ms x h = ticks_alone at k ms x h
  ended_known at (Some q) k ms x h = some_ends at q (q == suc place) refl k ms x h

  second_same : (at : At) (ms : List (Member C)) (x : Member C) → Is ms x → Second at ms x (ended plan.schedule at)
  second_same at ms x h = ended_known at (ended plan.schedule at) refl ms x h

  -- a tick of the module
  pub tick_same : (devices : List DeviceLine) → AreFromDevice plan.channels devices → (at : At) (ms : List (Member C)) (x : Member C) → Is ms x
      → Goes (module_tick plan at devices ms) (tick_alone (surroundings_of plan (suc place) rows) at (brought_tick plan (suc place) at devices ms) x)
  tick_same devices from at ms x h =
      let lines = of_tick at.now.0 devices in
      let c = inputs_all plan at lines ms in
      let is = brought_in_all plan (suc place) lines in
      let js = brought_moved plan (suc place) c.state c.at in
      let d = takes_all plan.fault at is x in
      let first : Goes c d = lines_same name place names apart plan lines (of_tick_from plan.channels at.now.0 devices from) at ms x h in
      subst (λ (e : Course (Member C)). Goes (module_tick plan at devices ms) e)
      (sym (runs_assoc d (λ a y. takes_all plan.fault a js y) (sends_and_ticks (surroundings_of plan (suc place) rows)))
      ∙ ap (λ (e : Course (Member C)). then_runs e (sends_and_ticks (surroundings_of plan (suc place) rows))) (sym (takes_append plan.fault is js at x)))
      (runs_same name place names apart c d (moves_and_ticks plan) (λ a y. then_runs (takes_all plan.fault a js y) (sends_and_ticks (surroundings_of plan (suc place) rows))) first
      (λ a e. subst (λ (o : Option At). Goes (moves_and_ticks plan a c.state) (then_runs (takes_all plan.fault a (brought_moved plan (suc place) c.state o) d.state) (sends_and_ticks (surroundings_of plan (suc place) rows)))) (sym e)
      (subst (λ (ks : List Input). Goes (moves_and_ticks plan a c.state) (then_runs (takes_all plan.fault a ks d.state) (sends_and_ticks (surroundings_of plan (suc place) rows))))
      (ended_held names all plan.channels plain.channels plain.all_ways a (suc place) c.state first.state.named (ended plan.schedule a))
      (second_same a c.state d.state first.state))))
