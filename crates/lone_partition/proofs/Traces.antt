-- A lone partition tick by tick, and the lines of its trace.
use Rattle.lone_partition.proofs.Prelude.{◌≡◌, ◌≢◌, ℕ, zero, suc, ◌+◌, ◌<◌, ◌≤◌, List, [], ◌∷◌, ◌++◌, Option, Some, None, refl, sym, ap, subst, ◌∙◌, arith, option_map, text_of, ModuleAction, Event, At, first_tick, next_tick, Member, IsNow, Alone, Surroundings, goes, inputs_in, takes, takes_all, sends_and_ticks, tick_alone, alone_from, trace_alone, Input, InputLine, inputs_of, lines_in, tick_of_input, Sent, HasSent, IsMade, IsCourse}
use Rattle.std.proofs.Common.{le_refl}
use Rattle.apex_types.specs.declared.codes.ModuleAction.TheVariants as reaction
use Rattle.apex_types.specs.declared.codes.StartCondition.TheVariants as condition
use Rattle.kernel_meaning.specs.Partition.{cold_start}
use Rattle.isolation.proofs.Now.{next_in, runs_in}
use Rattle.isolation.specs.Alone.{meets_fault}
use Rattle.isolation.specs.declared.input.Input.TheVariants.{Arrive, ModuleFault, PartitionFault}
use Rattle.lone_partition.proofs.LinesOfTicks.{inputs_are}
use Rattle.lone_partition.proofs.Outputs.{CompletesLines, lines_are_over, lines_go_on, lines_sent, nothing_sent}

-- ---- a tick stays a tick

module _ {C : Type 0} where
  meets_in : (at : At) (fault : ModuleAction) (x : Member C) → IsNow at.now.0 (meets_fault at fault x).at
  meets_in at reaction.Ignore x = refl
  meets_in at reaction.Shutdown x = tt
  meets_in at reaction.Reset x = refl

  takes_in : (fault : ModuleAction) (at : At) (i : Input) (x : Member C) → IsNow at.now.0 (takes fault at i x).at
  takes_in fault at (Arrive port m) x = refl
  takes_in fault at ModuleFault x = meets_in at fault x
  takes_in fault at PartitionFault x = refl

  takes_all_in : (fault : ModuleAction) (t : ℕ) (is : List Input) (at : At) (x : Member C) → at.now.0 ≡ t → IsNow t (takes_all fault at is x).at
  takes_all_in fault t [] at x e = e
  takes_all_in fault t (i ∷ is) at x e =
      let h = subst (λ (n : ℕ). IsNow n (takes fault at i x).at) e (takes_in fault at i x) in
      runs_in t (takes fault at i x) (λ a y. takes_all fault a is y) (takes fault at i x).at h h (λ a y k. takes_all_in fault t is a y k)

  pub tick_in : (s : Surroundings) (is : List Input) (at : At) (x : Member C) → IsNow at.now.0 (tick_alone s at is x).at
  tick_in s is at x =
      let c = takes_all s.fault at is x in
      let h = takes_all_in s.fault at.now.0 is at x refl in
      runs_in at.now.0 c (sends_and_ticks s) c.at h h (λ a y k. k)

  -- ---- other lines

  -- only the lines of these ticks count
  same_inputs : (s : Surroundings) (n : ℕ) (o : Option At) (x : Member C) (ls ks : List InputLine) → ((a : At) → o ≡ Some a → (t : ℕ) → a.now.0 ≤ t → inputs_in t ls ≡ inputs_in t ks)
      → alone_from s ls n o x ≡ alone_from s ks n o x
  same_inputs s zero o x ls ks h = refl
  same_inputs s (suc n) None x ls ks h = refl
  same_inputs s (suc n) (Some at) x ls ks h =
      let r = tick_alone s at (inputs_in at.now.0 ks) x in
      ap (λ (is : List Input). (tick_alone s at is x).lines ++ alone_from s ls n (option_map next_tick (tick_alone s at is x).at) (tick_alone s at is x).state) (h at refl at.now.0 (le_refl at.now.0))
      ∙ ap (λ (es : List Event). r.lines ++ es) (same_inputs s n (option_map next_tick r.at) r.state ls ks (λ a e t l. h at refl t (before a t (next_in at.now.0 r.at a (tick_in s (inputs_in at.now.0 ks) at x) e) l)))
    where
      before : (a : At) (t : ℕ) → a.now.0 ≡ at.now.0 + 1 → a.now.0 ≤ t → at.now.0 ≤ t
      before a t e l = omega arith

  -- The lines of the first of several ticks, with the inputs of this tick, and those of the other
  -- ticks, with the later inputs.
  tick_lines : (s : Surroundings) (lines own later : List InputLine) (n k : ℕ) (at : At) (x : Member C) → n ≡ suc k
      → own ≡ lines_in tick_of_input at.now.0 lines → ((t : ℕ) → at.now.0 < t → lines_in tick_of_input t later ≡ lines_in tick_of_input t lines)
      → alone_from s lines n (Some at) x ≡ (tick_alone s at (inputs_of own) x).lines ++ alone_from s later k (option_map next_tick (tick_alone s at (inputs_of own) x).at) (tick_alone s at (inputs_of own) x).state
  tick_lines s lines own later n k at x count is_own of_later =
      let r = tick_alone s at (inputs_of own) x in
      let here : inputs_in at.now.0 lines ≡ inputs_of own = inputs_are at.now.0 lines ∙ ap inputs_of (sym is_own) in
      ap (λ (m : ℕ). alone_from s lines m (Some at) x) count
      ∙ ap (λ (is : List Input). (tick_alone s at is x).lines ++ alone_from s lines k (option_map next_tick (tick_alone s at is x).at) (tick_alone s at is x).state) here
      ∙ ap (λ (es : List Event). r.lines ++ es) (same_inputs s k (option_map next_tick r.at) r.state lines later (λ a e t l. there t (after a t (next_in at.now.0 r.at a (tick_in s (inputs_of own) at x) e) l)))
    where
      after : (a : At) (t : ℕ) → a.now.0 ≡ at.now.0 + 1 → a.now.0 ≤ t → at.now.0 < t
      after a t e l = omega arith

      there : (t : ℕ) → at.now.0 < t → inputs_in t lines ≡ inputs_in t later
      there t l = inputs_are t lines ∙ ap inputs_of (sym (of_later t l)) ∙ sym (inputs_are t later)

  -- ---- one tick of a run

  none_left : (s : Surroundings) (lines : List InputLine) (n : ℕ) (x : Member C) → alone_from s lines n None x ≡ []
  none_left s lines zero x = refl
  none_left s lines (suc n) x = refl

  -- one more tick, followed by this, or by nothing
  ticks_on : (whole : List Event) (s : Surroundings) (lines own later : List InputLine) (n k : ℕ) (at : At) (answer : Option At) (x y : Member C) (old mid new : Sent) → n ≡ suc k
      → own ≡ lines_in tick_of_input at.now.0 lines → ((t : ℕ) → at.now.0 < t → lines_in tick_of_input t later ≡ lines_in tick_of_input t lines)
      → CompletesLines whole (alone_from s lines n (Some at) x) old mid → IsCourse (tick_alone s at (inputs_of own) x) answer y mid new
      → CompletesLines whole (alone_from s later k (option_map next_tick answer) y) old new
  ticks_on whole s lines own later n k at answer x y old mid new count is_own of_later way h =
      let r = tick_alone s at (inputs_of own) x in
      let next = ap (λ (o : Option At). alone_from s later k (option_map next_tick o) r.state) (sym h.at) ∙ ap (λ (z : Member C). alone_from s later k (option_map next_tick answer) z) (sym h.made.state) in
      lines_go_on whole (alone_from s lines n (Some at) x) r.lines (alone_from s later k (option_map next_tick answer) y) old mid new
      (tick_lines s lines own later n k at x count is_own of_later ∙ ap (λ (es : List Event). r.lines ++ es) next) way h.made.sent

  pub goes_on : (whole : List Event) (s : Surroundings) (lines own later : List InputLine) (n k : ℕ) (at last : At) (x y : Member C) (old mid new : Sent) → n ≡ suc k
      → own ≡ lines_in tick_of_input at.now.0 lines → ((t : ℕ) → at.now.0 < t → lines_in tick_of_input t later ≡ lines_in tick_of_input t lines)
      → CompletesLines whole (alone_from s lines n (Some at) x) old mid → IsCourse (tick_alone s at (inputs_of own) x) (Some last) y mid new
      → CompletesLines whole (alone_from s later k (Some (next_tick last)) y) old new
  goes_on whole s lines own later n k at last x y old mid new count is_own of_later way h = ticks_on whole s lines own later n k at (Some last) x y old mid new count is_own of_later way h

  -- the last tick, since the module is shut down in it
  pub ends_down : (whole : List Event) (s : Surroundings) (lines own later : List InputLine) (n k : ℕ) (at : At) (x y : Member C) (old mid new : Sent) → n ≡ suc k
      → own ≡ lines_in tick_of_input at.now.0 lines → ((t : ℕ) → at.now.0 < t → lines_in tick_of_input t later ≡ lines_in tick_of_input t lines)
      → CompletesLines whole (alone_from s lines n (Some at) x) old mid → IsCourse (tick_alone s at (inputs_of own) x) None y mid new
      → HasSent old new (text_of whole)
  ends_down whole s lines own later n k at x y old mid new count is_own of_later way h =
      lines_are_over whole (alone_from s later k None y) old new (none_left s later k y) (ticks_on whole s lines own later n k at None x y old mid new count is_own of_later way h)

  -- no tick remains
  pub nothing_left : (whole : List Event) (s : Surroundings) (lines : List InputLine) (n : ℕ) (o : Option At) (x : Member C) (old new : Sent) → n ≡ 0 → CompletesLines whole (alone_from s lines n o x) old new → HasSent old new (text_of whole)
  nothing_left whole s lines n o x old new none way = lines_are_over whole (alone_from s lines n o x) old new (ap (λ (m : ℕ). alone_from s lines m o x) none) way

-- ---- a whole run

module _ {C : Type 0} where
  -- without ticks nothing is written
  pub no_tick : (a : Alone C) (lines : List InputLine) (n : ℕ) (sent : Sent) → n ≡ 0 → HasSent sent sent (text_of (trace_alone a lines n))
  no_tick a lines n sent none = subst (λ (m : ℕ). HasSent sent sent (text_of (trace_alone a lines m))) (sym none) (nothing_sent sent)

  -- a run of some ticks begins with the start
  starts_first : (a : Alone C) (lines : List InputLine) (n : ℕ) → n ≢ 0
      → trace_alone a lines n ≡ (goes (cold_start first_tick condition.NormalStart) a.member).lines ++ alone_from a.around lines n (Some first_tick) (goes (cold_start first_tick condition.NormalStart) a.member).state
  starts_first a lines zero some = absurd (some refl)
  starts_first a lines (suc n) some = refl

  -- the start, and then the ticks
  pub started : (a : Alone C) (lines : List InputLine) (n : ℕ) (at : At) (y : Member C) (old mid new : Sent) → n ≢ 0 → at ≡ first_tick
      → IsMade (goes (cold_start at condition.NormalStart) a.member) y old mid → HasSent mid new (text_of (alone_from a.around lines n (Some first_tick) y))
      → HasSent old new (text_of (trace_alone a lines n))
  started a lines n at y old mid new some first h k =
      let g = goes (cold_start first_tick condition.NormalStart) a.member in
      let made = subst (λ (t : At). IsMade (goes (cold_start t condition.NormalStart) a.member) y old mid) first h in
      lines_sent old mid new g.lines (alone_from a.around lines n (Some first_tick) y) (trace_alone a lines n)
      (starts_first a lines n some ∙ ap (λ (z : Member C). g.lines ++ alone_from a.around lines n (Some first_tick) z) (sym made.state)) made.sent k
