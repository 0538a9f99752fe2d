-- The lines of the devices, as inputs of one partition.
use Rattle.isolation.proofs.Prelude.{◌≡◌, ℕ, suc, Bool, true, false, List, ◌∷◌, Some, sym, ◌==◌, slice_get, if◌then◌else◌, eqb-true, eqb-false, ModuleAction, DeviceInput, DeviceLine, At, PartitionId, ChannelEnd, Channel, Plan, Course, goes_on, still, steps, as_origin, breaks_module, starts_all, inputs, inputs_all, is_of_tick, of_tick, Member, breaks_down, cold_start, PartitionFault, ModuleFault, goes, meets_fault, takes_all, brought_in, brought_in_all, shuts_down}
use Rattle.std.proofs.Common.{[], refl, subst}
use Rattle.std.specs.Prelude.{cond}
use Rattle.apex_types.specs.declared.codes.ModuleAction.TheVariants as reaction
use Rattle.apex_types.specs.declared.codes.StartCondition.TheVariants as condition
use Rattle.apex_types.specs.declared.device.DeviceInput.TheVariants as device
use Rattle.apex_types.specs.declared.row.ChannelEnd.TheVariants as ends
use Rattle.module_meaning.specs.Module.{tells_fault}
use Rattle.isolation.specs.Brought.{is_shutdown}
use Rattle.isolation.proofs.Kept.{breaks_down_keeps}
use Rattle.isolation.proofs.Messages.{NotOf, gone_by}
use Rattle.isolation.proofs.Paths.{takes_append, takes_one}
use Rattle.isolation.proofs.Steps.{IsApart, Holds, Same, SamePath, still_same, steps_own, steps_other, starts_same, nothing_then_same, goes_on_same, runs_same}

-- the channel of a message is from the device
abbrev pub IsFromDevice : List Channel → DeviceInput → Type 0
IsFromDevice channels (device.Message channel m) = (c : Channel) → slice_get channels channel.0 ≡ Some c → c.source ≡ ends.Device
IsFromDevice channels (device.PartitionFault q) = Unit {0}
IsFromDevice channels device.ModuleFault = Unit {0}

abbrev pub AreFromDevice : List Channel → List DeviceLine → Type 0
AreFromDevice channels [] = Unit {0}
AreFromDevice channels (l ∷ ls) = IsFromDevice channels l.input × AreFromDevice channels ls

pub of_tick_from : (channels : List Channel) (t : ℕ) (ls : List DeviceLine) → AreFromDevice channels ls → AreFromDevice channels (of_tick t ls)
of_tick_from channels t [] h = h
of_tick_from channels t (l ∷ ls) h = either (is_of_tick t l) (of_tick_from channels t ls h.1)
  where
    either : (b : Bool) → AreFromDevice channels (of_tick t ls) → AreFromDevice channels (cond b (l ∷ of_tick t ls) (of_tick t ls))
    either true k = (h.0, k)
    either false k = k

module _ {C : Type 0} (name : List ℕ) (place : ℕ) (names : List (List ℕ)) (apart : IsApart name place names) where
  abbrev Is : List (Member C) → Member C → Type 0
  Is ms x = Holds {C = C} name place names apart ms x

  abbrev Goes : Course (List (Member C)) → Course (Member C) → Type 0
  Goes c d = SamePath {C = C} name place names apart c d

  fault_same : (at : At) (fault : ModuleAction) (ms : List (Member C)) (x : Member C) → Is ms x → Goes (breaks_module at fault ms) (meets_fault at fault x)
  fault_same at reaction.Ignore ms x h = record { at = refl; state = h; lines = refl }
  fault_same at reaction.Shutdown ms x h = record { at = refl; state = h; lines = refl }
  fault_same at reaction.Reset ms x h =
      goes_on_same name place names apart (as_origin at) _ (goes (cold_start (as_origin at) condition.HmModuleRestart) x)
      (nothing_then_same name place names apart (tells_fault at reaction.Reset ms) x (starts_all (as_origin at) condition.HmModuleRestart) (goes (cold_start (as_origin at) condition.HmModuleRestart) x)
      (record { state = h; lines = refl })
      (λ ns k. starts_same name place names apart (as_origin at) condition.HmModuleRestart ns x k))

  breaks_same : (fault : ModuleAction) (at : At) (q : PartitionId) (ms : List (Member C)) (x : Member C) → Is ms x → (b : Bool) → (q.0 == suc place) ≡ b
      → Goes (goes_on at (steps (breaks_down at) ms q.0)) (takes_all fault at (if b then PartitionFault ∷ [] else []) x)
  breaks_same fault at q ms x h true e =
      subst (λ (d : Course (Member C)). Goes (goes_on at (steps (breaks_down at) ms q.0)) d) (sym (takes_one fault PartitionFault at x))
      (goes_on_same name place names apart at (steps (breaks_down at) ms q.0) (goes (breaks_down at) x)
      (subst (λ (n : ℕ). Same {C = C} name place names apart (steps (breaks_down at) ms n) (goes (breaks_down at) x)) (sym (eqb-true q.0 (suc place) e)) (steps_own name place names apart (breaks_down at) (breaks_down_keeps at) ms x h)))
  breaks_same fault at q ms x h false e =
      goes_on_same name place names apart at (steps (breaks_down at) ms q.0) (still x) (steps_other name place names apart (breaks_down at) (breaks_down_keeps at) q.0 (eqb-false q.0 (suc place) e) ms x h)

  input_same : (plan : Plan) (at : At) (i : DeviceInput) → IsFromDevice plan.channels i → (ms : List (Member C)) (x : Member C) → Is ms x
      → Goes (inputs plan at i ms) (takes_all plan.fault at (brought_in plan (suc place) i) x)
  input_same plan at (device.Message channel m) from ms x h =
      gone_by name place names apart plan.fault at m (slice_get plan.channels channel.0) (λ c e. subst (λ (s : ChannelEnd). NotOf (suc place) s) (sym (from c e)) tt) ms x h
  input_same plan at (device.PartitionFault q) from ms x h = breaks_same plan.fault at q ms x h (q.0 == suc place) refl
  input_same plan at device.ModuleFault from ms x h =
      subst (λ (d : Course (Member C)). Goes (breaks_module at plan.fault ms) d) (sym (takes_one plan.fault ModuleFault at x)) (fault_same at plan.fault ms x h)

  fault_ends : (at b : At) (fault : ModuleAction) (ms : List (Member C)) → is_shutdown fault ≡ true → (breaks_module at fault ms).at ≡ Some b → ⊥
  fault_ends at b reaction.Ignore ms h e = cc
  fault_ends at b reaction.Shutdown ms h e = cc
  fault_ends at b reaction.Reset ms h e = cc

  -- after a shutdown nothing continues
  ends_there : (plan : Plan) (at b : At) (i : DeviceInput) (ms : List (Member C)) → shuts_down plan.fault i ≡ true → (inputs plan at i ms).at ≡ Some b → ⊥
  ends_there plan at b (device.Message channel m) ms h e = cc
  ends_there plan at b (device.PartitionFault q) ms h e = cc
  ends_there plan at b device.ModuleFault ms h e = fault_ends at b plan.fault ms h e

  pub lines_same : (plan : Plan) (ls : List DeviceLine) → AreFromDevice plan.channels ls → (at : At) (ms : List (Member C)) (x : Member C) → Is ms x
      → Goes (inputs_all plan at ls ms) (takes_all plan.fault at (brought_in_all plan (suc place) ls) x)
  lines_same plan [] from at ms x h = goes_on_same name place names apart at (still ms) (still x) (still_same name place names apart ms x h)
  lines_same plan (l ∷ ls) from at ms x h =
      let first = takes_all plan.fault at (brought_in plan (suc place) l.input) x in
      let rest = if shuts_down plan.fault l.input then [] else brought_in_all plan (suc place) ls in
      let one = input_same plan at l.input from.0 ms x h in
      subst (λ (d : Course (Member C)). Goes (inputs_all plan at (l ∷ ls) ms) d) (sym (takes_append plan.fault (brought_in plan (suc place) l.input) rest at x))
      (runs_same name place names apart (inputs plan at l.input ms) first (λ a ns. inputs_all plan a ls ns) (λ a y. takes_all plan.fault a rest y) one
      (λ b e. more (shuts_down plan.fault l.input) refl b e (lines_same plan ls from.1 b (inputs plan at l.input ms).state first.state one.state)))
    where
      more : (s : Bool) → shuts_down plan.fault l.input ≡ s → (b : At) → (inputs plan at l.input ms).at ≡ Some b
          → Goes (inputs_all plan b ls (inputs plan at l.input ms).state) (takes_all plan.fault b (brought_in_all plan (suc place) ls) (takes_all plan.fault at (brought_in plan (suc place) l.input) x).state)
          → Goes (inputs_all plan b ls (inputs plan at l.input ms).state) (takes_all plan.fault b (if s then [] else brought_in_all plan (suc place) ls) (takes_all plan.fault at (brought_in plan (suc place) l.input) x).state)
      more true s b e k = absurd (ends_there plan at b l.input ms s e)
      more false s b e k = k
