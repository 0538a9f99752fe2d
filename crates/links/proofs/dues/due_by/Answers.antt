use Rattle.links.proofs.Prelude.{◌≡◌, suc, ◌+◌, ◌<◌, ◌≤◌, length, get_or, arith, rules, w64, drop-cons, bit_at_set_same, bit_at_set_other, MARK_BITS, MOST_PROCESSES, DueEntry}
use Rattle.links.proofs.DueMask.{all_there, none_later, one_more, process_below}
use Rattle.links.proofs.dues.due_by.Goals as goal

abbrev nobody : DueEntry
nobody = record { process = record { 0 = 0 }; tick = record { 0 = 0 } }

pub overflow_shl-mask : goal.overflow_shl-mask
overflow_shl-mask c =
    let inside : c.loop-place.place < length c.args.dues.now.items = search rules in
    let below : (get_or c.args.dues.now.items c.loop-place.place nobody).process.0 < MOST_PROCESSES = process_below MOST_PROCESSES c.loop-place.place c.args.dues.now.items nobody inside c.requires.below in
    rw c.deref-in-loop-place.ensures.0 (omega (arith, below))

pub loop-place-preserved : goal.loop-place-preserved
loop-place-preserved c =
    let es = c.args.dues.now.items in
    let place = c.loop-place.place in
    let e = get_or c.args.dues.now.items c.loop-place.place nobody in
    let inside : c.loop-place.place < length c.args.dues.now.items = search rules in
    let below : (get_or c.args.dues.now.items c.loop-place.place nobody).process.0 < MOST_PROCESSES = process_below MOST_PROCESSES place es nobody inside c.requires.below in
    let bit : (get_or c.args.dues.now.items c.loop-place.place nobody).process.0 < MARK_BITS = omega (arith, below) in
    let come : (get_or c.args.dues.now.items c.loop-place.place nobody).tick.0 ≤ c.args.now.0 = rw c.deref.ensures.0 at c.if-deref-place.true in
    let next : place + 1 ≡ suc place = omega arith in
    rw (c.deref-in-loop-place.ensures.0, next) (omega (arith, inside), one_more c.args.now.0 place c.loop-place.mask _ e es (drop-cons es place nobody inside) come (bit_at_set_same w64 c.loop-place.mask e.process.0 bit) (λ i other. bit_at_set_other w64 c.loop-place.mask e.process.0 bit i other) c.loop-place.invariant.1)

pub returns-else-deref-place : goal.returns-else-deref-place
returns-else-deref-place c =
    let inside : c.loop-place.place < length c.args.dues.now.items = search rules in
    let later : c.args.now.0 < (get_or c.args.dues.now.items c.loop-place.place nobody).tick.0 = rw c.deref.ensures.0 at c.if-deref-place.false in
    all_there c.args.now.0 c.loop-place.place c.loop-place.mask c.args.dues.now.items (none_later c.args.now.0 c.loop-place.place c.args.dues.now.items nobody inside later c.requires.ordered) c.loop-place.invariant.1
