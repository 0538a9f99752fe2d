use Rattle.std.proofs.Common.{◌≡◌, ◌<◌, ◌≤◌, length, slice_set, ap, sym, ◌∙◌, rules, arith}
use Rattle.std.specs.Prelude.{ℤ, List, Option, slice_get, Some}
use Rattle.std.proofs.lemmas.Bool.{ltb-false}
use Rattle.engine_meaning.specs.Engine.{Asks, Nothing}
use Rattle.machine_meaning.specs.MachineControl.{MachineControl, machine_engine}
use Rattle.kernel_meaning.specs.Partition.{control_at, ticked}
use Rattle.kernel_laws.specs.Bursts.{Burst, burst}
use Rattle.processor.specs.Views.{asks_of}
use Rattle.regions.specs.Space.{Space, seen, stacks_of}
use Rattle.partition_base.specs.Bursting.{at_place}
use Rattle.partition_base.specs.Slots.{controls_from, control_of_slot}
use Rattle.partition_base.proofs.Bursts.{burst_behind, burst_past}
use Rattle.partition_base.proofs.Places.{as_many, put_stacks, put_one, selected_stacks, there, views}
use Rattle.partition_base.proofs.slot.advance_at.Goals as goal

pub returns-then-not-select-clause-burst : goal.returns-then-not-select-clause-burst
returns-then-not-select-clause-burst c bodies =
    let old = c.args.memory.now in
    let slots = c.args.slots.now.items in
    let p = c.args.place in
    let e = machine_engine c.args.code.now.costs c.args.code.now.instructions.items c.args.code.now.routines.items bodies in
    let same : c.select.new.self ≡ old = search rules in
    let past : length old.rest ≤ p = search (rules, ltb-false, c.select.ensures.there, c.if-not-select.true) in
    let shows : Space → Burst (List (Option MachineControl)) (List ℤ) Asks = λ s. record { control = controls_from slots (stacks_of s); words = s.words; told = Nothing; ticks = c.args.k } in
    ap shows same ∙ burst_past e slots (stacks_of old) p c.args.k old.words (omega (arith, as_many old, past))

pub returns-in-None-clause-burst : goal.returns-in-None-clause-burst
returns-in-None-clause-burst c bodies =
    let old = c.args.memory.now in
    let slots = c.args.slots.now.items in
    let ks = stacks_of old in
    let p = c.args.place in
    let e = machine_engine c.args.code.now.costs c.args.code.now.instructions.items c.args.code.now.routines.items bodies in
    let chosen : c.select.new.self ≡ seen old.words ks p = search rules in
    let behind : length slots ≤ p = search (rules, views) in
    let shows : List (List ℤ) → List ℤ → Burst (List (Option MachineControl)) (List ℤ) Asks = λ ks words. record { control = controls_from slots ks; words = words; told = Nothing; ticks = c.args.k } in
    ap (λ l. shows l c.select.new.self.words) (selected_stacks old.words ks p c.select.new.self chosen)
    ∙ ap (λ (s : Space). shows ks s.words) chosen
    ∙ burst_behind e slots ks p c.args.k old.words behind

pub returns-in-Some-clause-burst : goal.returns-in-Some-clause-burst
returns-in-Some-clause-burst c bodies =
    let old = c.args.memory.now in
    let ks = stacks_of old in
    let p = c.args.place in
    let slots = c.args.slots.now.items in
    let e = machine_engine c.args.code.now.costs c.args.code.now.instructions.items c.args.code.now.routines.items bodies in
    let slot = c.in-Some.slot.now in
    let now = c.advance.new in
    let chosen : c.select.new.self ≡ seen old.words ks p = search rules in
    let here : slice_get slots p ≡ Some slot = search (rules, views) in
    let within : p < length ks = search (rules, views) in
    let own : control_at (controls_from slots ks) p ≡ control_of_slot slot c.select.new.self.stack = there slots ks p slot here within ∙ ap (λ (s : Space). control_of_slot slot s.stack) (sym chosen) in
    let words : c.select.new.self.words ≡ old.words = ap (λ (s : Space). s.words) chosen in
    let shows : List (Option MachineControl) → Burst (List (Option MachineControl)) (List ℤ) Asks = λ cs. record { control = cs; words = now.memory.words; told = asks_of c.advance.result.outcome; ticks = c.advance.result.ticks } in
    ap (λ l. shows (controls_from (slice_set slots p now.self) l)) (put_stacks old.words now.memory.words ks p now.memory.stack c.select.new.self now.memory chosen c.advance.ensures.memory)
    ∙ ap shows (put_one slots ks p now.self now.memory.stack)
    ∙ ap (at_place p (controls_from slots ks)) (c.advance.ensures.burst bodies
    ∙ ap (λ o. burst (ticked e) c.args.k o c.select.new.self.words) (sym own)
    ∙ ap (λ w. burst (ticked e) c.args.k (control_at (controls_from slots ks) p) w) words)
