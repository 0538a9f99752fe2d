-- A loop over processes: the steps so far, followed by those of the remaining processes, are the
-- whole.
use Rattle.kernel_laws.proofs.Prelude.{◌≡◌, ℕ, zero, suc, ◌+◌, ◌-◌, ◌<◌, List, ◌++◌, refl, sym, ◌∙◌, arith, is_some, if◌then◌else◌, Mode, PartitionAction, EventKind, At, Action, Step, after, Processes, row_of, index, starts_waiting, start_from, Treated, treats, treated_after, due_from}
use Rattle.std.proofs.Common.{ap, append_assoc}
use Rattle.std.specs.Prelude.{Bool, true, false, Option}
use Rattle.apex_types.specs.declared.identity.Runner.TheVariants as runner
use Rattle.kernel_meaning.specs.Times.{then_others}

pub goes_on : {A : Type 0} (old new this rest whole : List A) → new ≡ old ++ this → old ++ (this ++ rest) ≡ whole → new ++ rest ≡ whole
goes_on old new this rest whole grown before = rw grown (append_assoc old this rest ∙ before)

pub start_step : (at : At) (next n place : ℕ) (s : Processes) → 0 < n → start_from at next n place s ≡ after (starts_waiting at next s (runner.Process (index place)) (row_of s (runner.Process (index place)))) (start_from at next (n - 1) (place + 1) (starts_waiting at next s (runner.Process (index place)) (row_of s (runner.Process (index place)))).part)
start_step at next zero place s h = absurd (omega arith)
start_step at next (suc n) place s h = let e : suc n - 1 ≡ n = omega arith in rw e refl

pub due_step : (at : At) (action : PartitionAction) (n place free : ℕ) (s : Processes) → 0 < n →
    due_from at action n place free s ≡ then_others (treats at free action s (index place) (row_of s (runner.Process (index place)))) (due_from at action (n - 1) (place + 1) (treats at free action s (index place) (row_of s (runner.Process (index place)))).free (treats at free action s (index place) (row_of s (runner.Process (index place)))).step.part)
due_step at action zero place free s h = absurd (omega arith)
due_step at action (suc n) place free s h = let e : suc n - 1 ≡ n = omega arith in rw e refl

-- ---- the next process of a loop, over any values

module _ (at : At) (next n place : ℕ) (s t : Processes) where
  abbrev this : Step Processes
  this = starts_waiting at next s (runner.Process (index place)) (row_of s (runner.Process (index place)))

  pub start_part : 0 < n → t ≡ this.part → (start_from at next (n - 1) (place + 1) t).part ≡ (start_from at next n place s).part
  start_part h e = rw e (sym (ap (λ (x : Step Processes). x.part) (start_step at next n place s h)))

  pub start_lines : (old new whole : List EventKind) → 0 < n → t ≡ this.part → new ≡ old ++ this.lines → old ++ (start_from at next n place s).lines ≡ whole → new ++ (start_from at next (n - 1) (place + 1) t).lines ≡ whole
  start_lines old new whole h e grown before = rw e (goes_on old new this.lines (start_from at next (n - 1) (place + 1) this.part).lines whole grown (ap (λ (x : Step Processes). old ++ x.lines) (sym (start_step at next n place s h)) ∙ before))

  pub start_actions : (old new whole : List Action) → 0 < n → t ≡ this.part → new ≡ old ++ this.actions → old ++ (start_from at next n place s).actions ≡ whole → new ++ (start_from at next (n - 1) (place + 1) t).actions ≡ whole
  start_actions old new whole h e grown before = rw e (goes_on old new this.actions (start_from at next (n - 1) (place + 1) this.part).actions whole grown (ap (λ (x : Step Processes). old ++ x.actions) (sym (start_step at next n place s h)) ∙ before))

-- ---- the next process to be treated

module _ (at : At) (action : PartitionAction) (n place free : ℕ) (s : Processes) where
  abbrev turn : Treated
  turn = treats at free action s (index place) (row_of s (runner.Process (index place)))

  abbrev others : Treated
  others = due_from at action (n - 1) (place + 1) turn.free turn.step.part

  pub due_ends : (clears : Option Mode) → 0 < n → clears ≡ turn.clears → is_some clears ≡ true → due_from at action n place free s ≡ turn
  due_ends clears h e is = due_step at action n place free s h ∙ ap (λ (b : Bool). if b then turn else treated_after turn.step others) (sym (ap is_some e) ∙ is)

  pub due_goes_on : (clears : Option Mode) → 0 < n → clears ≡ turn.clears → is_some clears ≡ false → due_from at action n place free s ≡ treated_after turn.step others
  due_goes_on clears h e is = due_step at action n place free s h ∙ ap (λ (b : Bool). if b then turn else treated_after turn.step others) (sym (ap is_some e) ∙ is)

  -- the treatment of the remaining processes, where the part and the places are those after this
  -- turn
  pub due_rest : (clears : Option Mode) (t : Processes) (left : ℕ) → 0 < n → clears ≡ turn.clears → is_some clears ≡ false → t ≡ turn.step.part → left ≡ turn.free →
      due_from at action n place free s ≡ treated_after turn.step (due_from at action (n - 1) (place + 1) left t)
  due_rest clears t left h e is part rest = rw (part, rest) (due_goes_on clears h e is)
