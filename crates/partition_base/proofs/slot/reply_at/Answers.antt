use Rattle.std.proofs.Common.{◌≡◌, ◌<◌, ◌≤◌, length, slice_set, ap, sym, ◌∙◌, rules, arith}
use Rattle.std.specs.Prelude.{slice_get, Some}
use Rattle.std.proofs.lemmas.Bool.{ltb-false}
use Rattle.machine_meaning.specs.MachineControl.{machine_engine}
use Rattle.kernel_meaning.specs.Partition.{control_at, replied}
use Rattle.regions.specs.Space.{Space, seen, stacks_of}
use Rattle.partition_base.specs.Slots.{controls_from, control_of_slot}
use Rattle.partition_base.proofs.Places.{as_many, put_stacks, put_one, same_past, there, views}
use Rattle.partition_base.proofs.slot.reply_at.Goals as goal

pub returns-in-Some-clause-controls : goal.returns-in-Some-clause-controls
returns-in-Some-clause-controls c costs code routines bodies =
    let old = c.args.memory.now in
    let ks = stacks_of old in
    let p = c.args.place in
    let slots = c.args.slots.now.items in
    let e = machine_engine costs code routines bodies in
    let answer = c.args.answer.now in
    let slot = c.in-Some.slot.now in
    let chosen : c.select.new.self ≡ seen old.words ks p = search rules in
    let here : slice_get slots p ≡ Some slot = search (rules, views) in
    let within : p < length ks = search (rules, views) in
    let own : control_at (controls_from slots ks) p ≡ control_of_slot slot c.select.new.self.stack = there slots ks p slot here within ∙ ap (λ (s : Space). control_of_slot slot s.stack) (sym chosen) in
    ap (λ l. controls_from (slice_set slots p c.reply.new.self) l) (put_stacks old.words c.select.new.self.words ks p c.reply.new.memory.stack c.select.new.self c.reply.new.memory chosen c.reply.ensures.memory)
    ∙ put_one slots ks p c.reply.new.self c.reply.new.memory.stack
    ∙ ap (λ k. slice_set (controls_from slots ks) p k) (c.reply.ensures.control costs code routines bodies ∙ ap (λ k. replied e k answer) (sym own))

pub returns-then-not-select-clause-controls : goal.returns-then-not-select-clause-controls
returns-then-not-select-clause-controls c costs code routines bodies =
    let old = c.args.memory.now in
    let slots = c.args.slots.now.items in
    let ks = stacks_of old in
    let p = c.args.place in
    let e = machine_engine costs code routines bodies in
    let same : c.select.new.self ≡ old = search rules in
    let past : length old.rest ≤ p = search (rules, ltb-false, c.select.ensures.there, c.if-not-select.true) in
    ap (λ (s : Space). controls_from slots (stacks_of s)) same ∙ sym (same_past slots ks p (replied e (control_at (controls_from slots ks) p) c.args.answer.now) (omega (arith, as_many old, past)))
