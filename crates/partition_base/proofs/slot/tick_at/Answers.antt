use Rattle.std.proofs.Common.{◌≡◌, ◌<◌, ◌≤◌, length, slice_set, ap, sym, ◌∙◌, rules, arith}
use Rattle.std.specs.Prelude.{ℤ, List, Option, slice_get, Some}
use Rattle.std.proofs.lemmas.Bool.{ltb-false}
use Rattle.engine_meaning.specs.Engine.{Nothing, Ticked}
use Rattle.machine_meaning.specs.MachineControl.{MachineControl, machine_engine}
use Rattle.kernel_meaning.specs.Partition.{control_at, ticked}
use Rattle.processor.specs.Views.{asks_of}
use Rattle.regions.specs.Space.{Space, seen, stacks_of}
use Rattle.partition_base.specs.Bursting.{tick_at_place}
use Rattle.partition_base.specs.Slots.{controls_from, control_of_slot}
use Rattle.partition_base.proofs.Bursts.{tick_behind, tick_past}
use Rattle.partition_base.proofs.Places.{as_many, put_stacks, put_one, same_lengths, selected_stacks, there, views}
use Rattle.partition_base.proofs.slot.tick_at.Goals as goal

pub returns-then-not-select-clause-ticked : goal.returns-then-not-select-clause-ticked
returns-then-not-select-clause-ticked c bodies =
    let old = c.args.memory.now in
    let slots = c.args.slots.now.items in
    let p = c.args.place in
    let e = machine_engine c.args.code.now.costs c.args.code.now.instructions.items c.args.code.now.routines.items bodies in
    let same : c.select.new.self ≡ old = search rules in
    let past : length old.rest ≤ p = search (rules, ltb-false, c.select.ensures.there, c.if-not-select.true) in
    let shows : Space → Ticked (List (Option MachineControl)) = λ s. record { control = controls_from slots (stacks_of s); words = s.words; asks = Nothing } in
    ap shows same ∙ tick_past e slots (stacks_of old) p old.words (omega (arith, as_many old, past))

pub returns-in-None-clause-ticked : goal.returns-in-None-clause-ticked
returns-in-None-clause-ticked c bodies =
    let old = c.args.memory.now in
    let slots = c.args.slots.now.items in
    let ks = stacks_of old in
    let p = c.args.place in
    let e = machine_engine c.args.code.now.costs c.args.code.now.instructions.items c.args.code.now.routines.items bodies in
    let chosen : c.select.new.self ≡ seen old.words ks p = search rules in
    let behind : length slots ≤ p = search (rules, views) in
    let shows : List (List ℤ) → List ℤ → Ticked (List (Option MachineControl)) = λ ks words. record { control = controls_from slots ks; words = words; asks = Nothing } in
    ap (λ l. shows l c.select.new.self.words) (selected_stacks old.words ks p c.select.new.self chosen)
    ∙ ap (λ (s : Space). shows ks s.words) chosen
    ∙ tick_behind e slots ks p old.words behind

pub returns-in-Some-clause-ticked : goal.returns-in-Some-clause-ticked
returns-in-Some-clause-ticked c bodies =
    let old = c.args.memory.now in
    let ks = stacks_of old in
    let p = c.args.place in
    let slots = c.args.slots.now.items in
    let e = machine_engine c.args.code.now.costs c.args.code.now.instructions.items c.args.code.now.routines.items bodies in
    let slot = c.in-Some.slot.now in
    let now = c.tick.new in
    let chosen : c.select.new.self ≡ seen old.words ks p = search rules in
    let here : slice_get slots p ≡ Some slot = search (rules, views) in
    let within : p < length ks = search (rules, views) in
    let own : control_at (controls_from slots ks) p ≡ control_of_slot slot c.select.new.self.stack = there slots ks p slot here within ∙ ap (λ (s : Space). control_of_slot slot s.stack) (sym chosen) in
    let words : c.select.new.self.words ≡ old.words = ap (λ (s : Space). s.words) chosen in
    let shows : List (Option MachineControl) → Ticked (List (Option MachineControl)) = λ cs. record { control = cs; words = now.memory.words; asks = asks_of c.tick.result } in
    ap (λ l. shows (controls_from (slice_set slots p now.self) l)) (put_stacks old.words now.memory.words ks p now.memory.stack c.select.new.self now.memory chosen c.tick.ensures.memory)
    ∙ ap shows (put_one slots ks p now.self now.memory.stack)
    ∙ ap (tick_at_place p (controls_from slots ks)) (c.tick.ensures.ticked bodies
    ∙ ap (λ o. ticked e o c.select.new.self.words) (sym own)
    ∙ ap (λ w. ticked e (control_at (controls_from slots ks) p) w) words)

pub returns-in-Some-clause-stacks : goal.returns-in-Some-clause-stacks
returns-in-Some-clause-stacks c =
    let old = c.args.memory.now in
    let ks = stacks_of old in
    let chosen : c.select.new.self ≡ seen old.words ks c.args.place = search rules in
    same_lengths old.words c.tick.new.memory.words ks c.args.place c.tick.new.memory.stack c.select.new.self c.tick.new.memory chosen c.tick.ensures.memory (c.tick.ensures.stack ∙ ap (λ (s : Space). length s.stack) chosen)
