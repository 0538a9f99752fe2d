-- The device lines: the last of them, a line that shuts the module down, and a fault of the module.
use Rattle.module.proofs.Prelude.{◌≡◌, ℕ, ◌+◌, ◌<◌, ◌≤◌, List, ◌∷◌, length, get_or, drop, Option, Some, None, refl, sym, ap, ◌∙◌, drop_more, drop_all, ModuleAction, DeviceLine, At, Plan, Course, as_origin, breaks_module, of_tick, starts_all, then_goes, then_runs, inputs, inputs_all, moves_and_ticks, module_tick, Member, Sent, IsMade, IsCourse}
use Rattle.apex_types.specs.declared.codes.ModuleAction.TheVariants as reaction
use Rattle.apex_types.specs.declared.codes.StartCondition.TheVariants as condition
use Rattle.module_meaning.specs.Module.{tells_fault}
use Rattle.lone_partition.proofs.Written.{CompletesCourse, course_is_over, ends_down}

-- after the last one nothing is left
pub lines_are_over : {C : Type 0} {whole : Course (List (Member C))} {old new : Sent} (plan : Plan) (at : At) (lines : List DeviceLine) (i : ℕ) (now : List (Member C))
    → CompletesCourse whole (inputs_all plan at (drop i lines) now) old new → length lines ≤ i → IsCourse whole (Some at) now old new
lines_are_over plan at lines i now way past = course_is_over at now (ap (λ (ls : List DeviceLine). inputs_all plan at ls now) (drop_all i lines past)) way

-- a line shuts the module down, and so all do
pub lines_end_down : {C : Type 0} {whole : Course (List (Member C))} {members : List (Member C)} {old mid new : Sent} (plan : Plan) (at : At) (lines : List DeviceLine) (i : ℕ) (l : DeviceLine) (now : List (Member C))
    → CompletesCourse whole (inputs_all plan at (drop i lines) now) old mid → i < length lines → l ≡ get_or lines i l
    → IsCourse (inputs plan at l.input now) None members mid new → IsCourse whole None members old new
lines_end_down {members = members} {new = new} plan at lines i l now way within is h =
    let next = drop_more lines i l within ∙ ap (λ (x : DeviceLine). x ∷ drop (i + 1) lines) (sym is) in
    let split = ap (λ (ls : List DeviceLine). inputs_all plan at ls now) next in
    way.ends None members new (ends_down (λ a ms. inputs_all plan a (drop (i + 1) lines) ms) split h)

pub ruleset lines_end = (lines_are_over, lines_end_down)

-- the lines of a tick shut the module down, and so the tick does
pub tick_ends_down : {C : Type 0} {members : List (Member C)} {old new : Sent} (plan : Plan) (at : At) (lines : List DeviceLine) (now : List (Member C))
    → IsCourse (inputs_all plan at lines now) None members old new → of_tick at.now.0 lines ≡ lines → IsCourse (module_tick plan at lines now) None members old new
tick_ends_down plan at lines now h of_now =
    let split = ap (λ (ls : List DeviceLine). then_runs (inputs_all plan at ls now) (moves_and_ticks plan)) of_now in
    ends_down (moves_and_ticks plan) split h

-- ---- a fault of the module

module _ {C : Type 0} {now : List (Member C)} {old new : Sent} (ms : List (Member C)) (at : At) where
  pub fault_ignored : (action : ModuleAction) → action ≡ reaction.Ignore → IsMade (tells_fault at action ms) now old new → IsCourse (breaks_module at action ms) (Some at) now old new
  fault_ignored reaction.Ignore e h = record { at = refl; made = h }
  fault_ignored reaction.Shutdown e h = absurd cc
  fault_ignored reaction.Reset e h = absurd cc

  pub fault_shuts_down : (action : ModuleAction) → action ≡ reaction.Shutdown → IsMade (tells_fault at action ms) now old new → IsCourse (breaks_module at action ms) None now old new
  fault_shuts_down reaction.Ignore e h = absurd cc
  fault_shuts_down reaction.Shutdown e h = record { at = refl; made = record { state = h.state; sent = h.sent } }
  fault_shuts_down reaction.Reset e h = absurd cc

  pub fault_resets : (origin : At) (action : ModuleAction) → action ≡ reaction.Reset → origin ≡ as_origin at
      → IsMade (then_goes (tells_fault at reaction.Reset ms) (starts_all (as_origin at) condition.HmModuleRestart)) now old new → IsCourse (breaks_module at action ms) (Some origin) now old new
  fault_resets origin reaction.Ignore e same h = absurd cc
  fault_resets origin reaction.Shutdown e same h = absurd cc
  fault_resets origin reaction.Reset e same h = record { at = ap (λ (a : At). Some a) same; made = h }
