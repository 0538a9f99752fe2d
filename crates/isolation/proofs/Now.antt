-- A step that may start the module again leaves the tick as it is: only the origin changes.
use Rattle.isolation.proofs.Prelude.{◌≡◌, ℕ, ◌+◌, List, ◌∷◌, Option, Some, None, sym, ◌∙◌, option_map, ModuleAction, DeviceInput, DeviceLine, At, Plan, Course, unless_down, breaks_module, inputs, inputs_all, of_tick, moves_and_ticks, module_tick, next_tick, Member}
use Rattle.std.proofs.Common.{[], refl, ap, subst}
use Rattle.apex_types.specs.declared.codes.ModuleAction.TheVariants as reaction
use Rattle.apex_types.specs.declared.device.DeviceInput.TheVariants as device
use Rattle.module_meaning.specs.Standing.{IsNow}
use Rattle.isolation.proofs.Steps.{same_some}

-- one step, then another
pub runs_in : {S : Type 0} (t : ℕ) (c : Course S) (p : At → S → Course S) (o : Option At) → IsNow t c.at → IsNow t o
    → ((a : At) (s : S) → a.now.0 ≡ t → IsNow t (p a s).at) → IsNow t (unless_down c p o).at
runs_in t c p None h k rest = h
runs_in t c p (Some a) h k rest = rest a c.state k

module _ {C : Type 0} where
  breaks_in : (at : At) (fault : ModuleAction) (ms : List (Member C)) → IsNow at.now.0 (breaks_module at fault ms).at
  breaks_in at reaction.Ignore ms = refl
  breaks_in at reaction.Shutdown ms = tt
  breaks_in at reaction.Reset ms = refl

  input_in : (plan : Plan) (at : At) (i : DeviceInput) (ms : List (Member C)) → IsNow at.now.0 (inputs plan at i ms).at
  input_in plan at (device.Message channel m) ms = refl
  input_in plan at (device.PartitionFault q) ms = refl
  input_in plan at device.ModuleFault ms = breaks_in at plan.fault ms

  pub inputs_in_tick : (plan : Plan) (t : ℕ) (ls : List DeviceLine) (at : At) (ms : List (Member C)) → at.now.0 ≡ t → IsNow t (inputs_all plan at ls ms).at
  inputs_in_tick plan t [] at ms e = e
  inputs_in_tick plan t (l ∷ ls) at ms e =
      let h = subst (λ (n : ℕ). IsNow n (inputs plan at l.input ms).at) e (input_in plan at l.input ms) in
      runs_in t (inputs plan at l.input ms) (λ a ns. inputs_all plan a ls ns) (inputs plan at l.input ms).at h h (λ a ns k. inputs_in_tick plan t ls a ns k)

  pub tick_in : (plan : Plan) (devices : List DeviceLine) (at : At) (ms : List (Member C)) → IsNow at.now.0 (module_tick plan at devices ms).at
  tick_in plan devices at ms =
      let c = inputs_all plan at (of_tick at.now.0 devices) ms in
      let h = inputs_in_tick plan at.now.0 (of_tick at.now.0 devices) at ms refl in
      runs_in at.now.0 c (moves_and_ticks plan) c.at h h (λ a ns k. k)

-- the next tick
pub next_in : (t : ℕ) (o : Option At) (a : At) → IsNow t o → option_map next_tick o ≡ Some a → a.now.0 ≡ t + 1
next_in t None a h e = absurd (cc)
next_in t (Some b) a h e = let same : next_tick b ≡ a = same_some (next_tick b) a e in ap (λ (c : At). c.now.0) (sym same) ∙ ap (λ (n : ℕ). n + 1) h
