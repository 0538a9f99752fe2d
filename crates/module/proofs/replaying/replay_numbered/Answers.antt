use Rattle.module.proofs.Prelude.{rules, ◌≡◌, ◌-◌, List, Some, Ok, Err, Result, sym, ap, ◌∙◌, slice_get-get_or, slice_get, item_of, image_of, AreInOrder, replay_verdict, Slice, slice, slice_of, InputLine, ReplaysSlice, fault_of_text, RunFault, Write}
use Rattle.std.proofs.Common.{subst}
use Rattle.lone_partition.specs.Lone.{alone_of}
use Rattle.module.proofs.Named.{for_slice, has_ports}
use Rattle.module.proofs.Replayed.{in_order, inputs_taken, slice_cut_off, slice_written, text_refused}
use Rattle.module.proofs.replaying.replay_numbered.Goals as goal

pub read_inputs-requires : goal.read_inputs-requires
read_inputs-requires g c =
    let item = c.index-item.result.now in
    let here : slice_get c.args.image.now.partitions.items (c.args.number.0 - 1) ≡ Some item = search (rules, slice_get-get_or) in
    has_ports c.args.image.now (c.args.number.0 - 1) item here

pub returns-in_err-lines-clause-trace : goal.returns-in_err-lines-clause-trace
returns-in_err-lines-clause-trace g c = λ s is.
    let image = c.args.image.now in
    let item = c.index-item.result.now in
    let here : slice_get image.partitions.items (c.args.number.0 - 1) ≡ Some item = search (rules, slice_get-get_or) in
    let old = g.S.Sink.taken c.args.sink.now in
    let its = slice_of (image_of image) c.args.number.0 (item_of item) in
    let fault = c.in_err-lines.field-0.0 in
    let answer : c.from_residual.result ≡ Err (fault_of_text fault) = search rules in
    for_slice (λ (t : Slice). ReplaysSlice t c.args.inputs.now c.args.ticks old old c.from_residual.result) image c.args.number.0 item s c.requires.there here is
    (subst (λ (r : Result (Unit {0}) RunFault). ReplaysSlice its c.args.inputs.now c.args.ticks old old r) (sym answer) (text_refused its c.args.inputs.now c.args.ticks old fault c.in_err-lines.ensures.refused))

pub run-requires-clause-order : goal.run-requires-clause-order
run-requires-clause-order g c = in_order 0 c.deref.result.now (subst (AreInOrder 0) (sym c.deref.ensures.value) c.in_ok-lines.ensures.order)

pub returns-in_err-run-clause-trace : goal.returns-in_err-run-clause-trace
returns-in_err-run-clause-trace g c = λ s is.
    let image = c.args.image.now in
    let item = c.index-item.result.now in
    let here : slice_get image.partitions.items (c.args.number.0 - 1) ≡ Some item = search (rules, slice_get-get_or) in
    let lines = c.deref.result.now in
    let old = g.S.Sink.taken c.args.sink.now in
    let new = g.S.Sink.taken c.run.new.sink in
    let taken = for_slice (λ (t : Slice). replay_verdict t.item.partition c.args.inputs.now ≡ Ok lines) image c.args.number.0 item s c.requires.there here is (inputs_taken lines c.deref.ensures.value c.in_ok-lines.ensures.accepted) in
    let answer : c.from_residual-in_err-run.result ≡ Err Write = search rules in
    subst (λ (r : Result (Unit {0}) RunFault). ReplaysSlice s c.args.inputs.now c.args.ticks old new r) (sym answer)
    (slice_cut_off s (slice (image_of image) c.args.number.0) (alone_of c.in_ok-alone.alone) c.args.inputs.now lines c.args.ticks old new c.in_ok-alone.ensures is taken c.in_err-run.ensures.0)

pub returns-clause-trace : goal.returns-clause-trace
returns-clause-trace g c = λ s is.
    let image = c.args.image.now in
    let item = c.index-item.result.now in
    let here : slice_get image.partitions.items (c.args.number.0 - 1) ≡ Some item = search (rules, slice_get-get_or) in
    let lines = c.deref.result.now in
    let old = g.S.Sink.taken c.args.sink.now in
    let new = g.S.Sink.taken c.run.new.sink in
    let taken = for_slice (λ (t : Slice). replay_verdict t.item.partition c.args.inputs.now ≡ Ok lines) image c.args.number.0 item s c.requires.there here is (inputs_taken lines c.deref.ensures.value c.in_ok-lines.ensures.accepted) in
    slice_written s (slice (image_of image) c.args.number.0) (alone_of c.in_ok-alone.alone) c.args.inputs.now lines c.args.ticks old new c.in_ok-alone.ensures is taken c.in_ok-run.ensures.0
