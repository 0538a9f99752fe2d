use Rattle.module.proofs.Prelude.{rules, ◌≡◌, ◌-◌, ◌≤◌, ℕ, length, List, Some, Ok, Err, Result, sym, ap, ◌∙◌, slice_get-get_or, slice_get, Appends, MOST_DEVICE_LINES, TakesBeginning, DeviceLine, verdict_for, Image, Partition, partition_of, image_of, replay_text, machine_inputs, slice, InputLine, HasNoRoom, TellsSlice, AreFrom, InputsFault}
use Rattle.std.proofs.Common.{subst}
use Rattle.image.specs.declared.value.Image as code
use Rattle.module.specs.declared.inputs_fault.InputsFault.TheVariants.{Write}
use Rattle.module.proofs.Devices.{read_in_order}
use Rattle.module.proofs.Named.{row_at, slice_number}
use Rattle.module.proofs.Told.{lines_taken, no_room_told, text_cut_off, text_told}
use Rattle.module.proofs.telling.tell_numbered.Goals as goal

pub collect-requires-clause-order : goal.collect-requires-clause-order
collect-requires-clause-order g c = read_in_order _ _ c.args.wanted.devices.now c.deref.result.now (lines_taken c.deref.result.now c.deref.ensures.value c.in_ok-lines.ensures.accepted)

pub returns-in_err-inputs-clause-told : goal.returns-in_err-inputs-clause-told
returns-in_err-inputs-clause-told g c = λ s is.
    let loaded = image_of c.args.image in
    let lines = c.deref.result.now in
    let old = g.S.Sink.taken c.args.sink.now in
    let fault = c.in_err-inputs.field-0.0 in
    let same : image_of c.in_ok-module.module.image ≡ loaded = ap (λ (i : code.Image). image_of i) c.in_ok-module.ensures.image in
    let taken = lines_taken lines c.deref.ensures.value c.in_ok-lines.ensures.accepted in
    let here = subst (λ (i : Image). HasNoRoom (length (machine_inputs i c.args.number.0 lines c.args.wanted.ticks)) fault) same c.in_err-inputs.ensures.refused in
    let there = subst (λ (p : ℕ). HasNoRoom (length (machine_inputs loaded p lines c.args.wanted.ticks)) fault) (slice_number loaded c.args.number.0 s is) here in
    let answer : c.from_residual-in_err-inputs.result ≡ Err fault = search rules in
    subst (λ (r : Result (Unit {0}) InputsFault). TellsSlice loaded s c.args.wanted.devices.now c.args.wanted.ticks old old r) (sym answer) (no_room_told loaded s c.args.wanted.devices.now lines c.args.wanted.ticks old fault taken there)

pub returns-in_err-write_inputs-clause-told : goal.returns-in_err-write_inputs-clause-told
returns-in_err-write_inputs-clause-told g c = λ s is.
    let loaded = image_of c.args.image in
    let lines = c.deref.result.now in
    let inputs = c.deref-2.result.now in
    let old = g.S.Sink.taken c.args.sink.now in
    let new = g.S.Sink.taken c.write_inputs.new.sink in
    let item = c.index-item.result.now in
    let image = c.collect.new.running.image in
    let here : slice_get image.partitions.items (c.args.number.0 - 1) ≡ Some item = search (rules, slice_get-get_or) in
    let first : image_of c.in_ok-module.module.image ≡ loaded = ap (λ (i : code.Image). image_of i) c.in_ok-module.ensures.image in
    let same : image_of image ≡ loaded = ap (λ (i : code.Image). image_of i) c.in_ok-inputs.ensures.image ∙ first in
    let taken = lines_taken lines c.deref.ensures.value c.in_ok-lines.ensures.accepted in
    let brought : inputs ≡ machine_inputs loaded s.number lines c.args.wanted.ticks =
    c.deref-2.ensures.value ∙ c.in_ok-inputs.ensures.inputs ∙ ap (λ (i : Image). machine_inputs i c.args.number.0 lines c.args.wanted.ticks) first ∙ ap (λ (p : ℕ). machine_inputs loaded p lines c.args.wanted.ticks) (slice_number loaded c.args.number.0 s is) in
    let few : length inputs ≤ MOST_DEVICE_LINES = subst (λ (ls : List InputLine). length ls ≤ MOST_DEVICE_LINES) (sym c.deref-2.ensures.value) c.in_ok-inputs.inputs.few in
    let row = row_at image loaded c.args.number.0 item s same c.requires.there here is in
    let out = subst (λ (r : Partition). TakesBeginning old new (replay_text r inputs)) row c.in_err-write_inputs.ensures.beginning in
    let answer : c.from_residual-in_err-write_inputs.result ≡ Err Write = search rules in
    subst (λ (r : Result (Unit {0}) InputsFault). TellsSlice loaded s c.args.wanted.devices.now c.args.wanted.ticks old new r) (sym answer) (text_cut_off loaded s c.args.wanted.devices.now lines c.args.wanted.ticks inputs old new taken brought few out)

pub returns-clause-told : goal.returns-clause-told
returns-clause-told g c = λ s is.
    let loaded = image_of c.args.image in
    let lines = c.deref.result.now in
    let inputs = c.deref-2.result.now in
    let old = g.S.Sink.taken c.args.sink.now in
    let new = g.S.Sink.taken c.write_inputs.new.sink in
    let item = c.index-item.result.now in
    let image = c.collect.new.running.image in
    let here : slice_get image.partitions.items (c.args.number.0 - 1) ≡ Some item = search (rules, slice_get-get_or) in
    let first : image_of c.in_ok-module.module.image ≡ loaded = ap (λ (i : code.Image). image_of i) c.in_ok-module.ensures.image in
    let same : image_of image ≡ loaded = ap (λ (i : code.Image). image_of i) c.in_ok-inputs.ensures.image ∙ first in
    let taken = lines_taken lines c.deref.ensures.value c.in_ok-lines.ensures.accepted in
    let number = slice_number loaded c.args.number.0 s is in
    let brought : inputs ≡ machine_inputs loaded s.number lines c.args.wanted.ticks =
    c.deref-2.ensures.value ∙ c.in_ok-inputs.ensures.inputs ∙ ap (λ (i : Image). machine_inputs i c.args.number.0 lines c.args.wanted.ticks) first ∙ ap (λ (p : ℕ). machine_inputs loaded p lines c.args.wanted.ticks) number in
    let few : length inputs ≤ MOST_DEVICE_LINES = subst (λ (ls : List InputLine). length ls ≤ MOST_DEVICE_LINES) (sym c.deref-2.ensures.value) c.in_ok-inputs.inputs.few in
    let row = row_at image loaded c.args.number.0 item s same c.requires.there here is in
    let out = subst (λ (r : Partition). Appends old new (replay_text r inputs)) row c.in_ok-write_inputs.ensures.ok in
    text_told loaded s c.args.wanted.devices.now lines c.args.wanted.ticks inputs old new c.args.image.lawful (subst (λ (p : ℕ). slice loaded p ≡ Some s) number is) taken c.requires.ticks brought few c.in_ok-write_inputs.ensures.words out
