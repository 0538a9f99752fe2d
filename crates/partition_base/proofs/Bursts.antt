-- Ticks and bursts of slots.
use Rattle.std.proofs.Common.{◌≡◌, ℕ, zero, suc, ◌+◌, ◌≤◌, ℤ, Bool, true, false, cond, List, length, refl, ap, sym, ◌∙◌, arith}
use Rattle.std.specs.Prelude.{Option, Some, None, slice_set}
use Rattle.apex_types.specs.declared.cost.Costs.{Costs}
use Rattle.apex_types.specs.declared.instruction.Instr.{Instr}
use Rattle.apex_types.specs.declared.row.RoutineRow.{RoutineRow}
use Rattle.engine_meaning.specs.Engine.{Engine, Asks, Nothing}
use Rattle.machine_meaning.specs.MachineControl.{MachineControl, machine_tick}
use Rattle.kernel_meaning.specs.Partition.{control_at, ticked}
use Rattle.machine_laws.proofs.StackLength.{tick_keeps_stack, tick_keeps_words}
use Rattle.kernel_laws.specs.Bursts.{Burst, later, alone, burst, machine_burst, is_nothing, told_of}
use Rattle.partition_base.specs.Bursting.{at_place, burst_at, tick_at_place, ticked_at}
use Rattle.partition_base.specs.Slots.{controls_from}
use Rattle.partition_base.specs.declared.slot.Slot.{Slot}
use Rattle.partition_base.proofs.Places.{none_behind, none_past, same_behind, same_past}

-- a runner that has nothing left to do
pub burst_none : {C : Type 0} (e : Engine C) (n : ℕ) (w : List ℤ) → burst (ticked e) n None w ≡ record { control = None; words = w; told = Nothing; ticks = n }
burst_none e zero w = refl
burst_none e (suc n) w =
    let count : 1 + n ≡ suc n = omega arith in
    ap (later 1) (burst_none e n w) ∙ ap (λ k. record { control = None; words = w; told = Nothing; ticks = k }) count

abbrev pub some_burst : {C : Type 0} → Burst C (List ℤ) Asks → Burst (Option C) (List ℤ) Asks
some_burst b = record { control = Some b.control; words = b.words; told = b.told; ticks = b.ticks }

pub burst_some : {C : Type 0} (e : Engine C) (n : ℕ) (c : C) (w : List ℤ) → burst (ticked e) n (Some c) w ≡ some_burst (burst e.tick n c w)
burst_some e zero c w = refl
burst_some e (suc n) c w =
    let t = e.tick c w in
    let step : (q : Bool) → cond q (later 1 (burst (ticked e) n (Some t.control) t.words)) (alone (told_of (ticked e (Some c) w))) ≡ some_burst (cond q (later 1 (burst e.tick n t.control t.words)) (alone (told_of t))) =
    λ q. elim q as (λ q. cond q (later 1 (burst (ticked e) n (Some t.control) t.words)) (alone (told_of (ticked e (Some c) w))) ≡ some_burst (cond q (later 1 (burst e.tick n t.control t.words)) (alone (told_of t)))) [
      | true ↦ ap (later 1) (burst_some e n t.control t.words)
      | false ↦ refl
    ] in
    step (is_nothing t.asks)

-- a burst keeps the lengths of the stack and of the data
pub burst_keeps_stack : (costs : Costs) (code : List (Option Instr)) (rs : List RoutineRow) (n : ℕ) (m : MachineControl) (w : List ℤ) → length (machine_burst costs code rs n m w).control.stack ≡ length m.stack
burst_keeps_stack costs code rs zero m w = refl
burst_keeps_stack costs code rs (suc n) m w =
    let t = machine_tick costs code rs m w in
    let kept = tick_keeps_stack costs code rs m w in
    let step : (q : Bool) → length (cond q (later 1 (machine_burst costs code rs n t.control t.words)) (alone (told_of t))).control.stack ≡ length m.stack =
    λ q. elim q as (λ q. length (cond q (later 1 (machine_burst costs code rs n t.control t.words)) (alone (told_of t))).control.stack ≡ length m.stack) [
      | true ↦ burst_keeps_stack costs code rs n t.control t.words ∙ kept
      | false ↦ kept
    ] in
    step (is_nothing t.asks)

pub burst_keeps_words : (costs : Costs) (code : List (Option Instr)) (rs : List RoutineRow) (n : ℕ) (m : MachineControl) (w : List ℤ) → length (machine_burst costs code rs n m w).words ≡ length w
burst_keeps_words costs code rs zero m w = refl
burst_keeps_words costs code rs (suc n) m w =
    let t = machine_tick costs code rs m w in
    let kept = tick_keeps_words costs code rs m w in
    let step : (q : Bool) → length (cond q (later 1 (machine_burst costs code rs n t.control t.words)) (alone (told_of t))).words ≡ length w =
    λ q. elim q as (λ q. length (cond q (later 1 (machine_burst costs code rs n t.control t.words)) (alone (told_of t))).words ≡ length w) [
      | true ↦ burst_keeps_words costs code rs n t.control t.words ∙ kept
      | false ↦ kept
    ] in
    step (is_nothing t.asks)

-- without a control, nothing changes
no_tick : (e : Engine MachineControl) (slots : List Slot) (ks : List (List ℤ)) (p : ℕ) (w : List ℤ) → control_at (controls_from slots ks) p ≡ None
    → ((c : Option MachineControl) → slice_set (controls_from slots ks) p c ≡ controls_from slots ks)
    → record { control = controls_from slots ks; words = w; asks = Nothing } ≡ ticked_at e p (controls_from slots ks) w
no_tick e slots ks p w none same =
    let cs = controls_from slots ks in
    ap (λ l. record { control = l; words = w; asks = Nothing }) (sym (same None)) ∙ ap (λ o. tick_at_place p cs (ticked e o w)) (sym none)

pub tick_behind : (e : Engine MachineControl) (slots : List Slot) (ks : List (List ℤ)) (p : ℕ) (w : List ℤ) → length slots ≤ p
    → record { control = controls_from slots ks; words = w; asks = Nothing } ≡ ticked_at e p (controls_from slots ks) w
tick_behind e slots ks p w h = no_tick e slots ks p w (none_behind slots ks p h) (λ c. same_behind slots ks p c h)

pub tick_past : (e : Engine MachineControl) (slots : List Slot) (ks : List (List ℤ)) (p : ℕ) (w : List ℤ) → length ks ≤ p
    → record { control = controls_from slots ks; words = w; asks = Nothing } ≡ ticked_at e p (controls_from slots ks) w
tick_past e slots ks p w h = no_tick e slots ks p w (none_past slots ks p h) (λ c. same_past slots ks p c h)

pub no_burst : (e : Engine MachineControl) (slots : List Slot) (ks : List (List ℤ)) (p n : ℕ) (w : List ℤ) → control_at (controls_from slots ks) p ≡ None
    → ((c : Option MachineControl) → slice_set (controls_from slots ks) p c ≡ controls_from slots ks)
    → record { control = controls_from slots ks; words = w; told = Nothing; ticks = n } ≡ burst_at e n p (controls_from slots ks) w
no_burst e slots ks p n w none same =
    let cs = controls_from slots ks in
    ap (λ l. record { control = l; words = w; told = Nothing; ticks = n }) (sym (same None))
    ∙ ap (at_place p cs) (sym (burst_none e n w))
    ∙ ap (λ o. at_place p cs (burst (ticked e) n o w)) (sym none)

pub burst_behind : (e : Engine MachineControl) (slots : List Slot) (ks : List (List ℤ)) (p n : ℕ) (w : List ℤ) → length slots ≤ p
    → record { control = controls_from slots ks; words = w; told = Nothing; ticks = n } ≡ burst_at e n p (controls_from slots ks) w
burst_behind e slots ks p n w h = no_burst e slots ks p n w (none_behind slots ks p h) (λ c. same_behind slots ks p c h)

pub burst_past : (e : Engine MachineControl) (slots : List Slot) (ks : List (List ℤ)) (p n : ℕ) (w : List ℤ) → length ks ≤ p
    → record { control = controls_from slots ks; words = w; told = Nothing; ticks = n } ≡ burst_at e n p (controls_from slots ks) w
burst_past e slots ks p n w h = no_burst e slots ks p n w (none_past slots ks p h) (λ c. same_past slots ks p c h)
