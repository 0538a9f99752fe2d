use Rattle.links.proofs.Prelude.{◌≡◌, ◌+◌, ◌*◌, ◌<◌, arith, w64, bit_at_set_same, bit_at_set_other, MARK_BITS}
use Rattle.std.proofs.Common.{◌%◌}
use Rattle.std.proofs.lemmas.Nat.Bits.{bit_at_clear_same, bit_at_clear_other}
use Rattle.links.proofs.Bits.{put_bits}
use Rattle.links.proofs.marks.put.Goals as goal

pub returns-then-any : goal.returns-then-any
returns-then-any c =
    let bit : c.args.level % MARK_BITS < MARK_BITS = omega arith in
    let is : c.args.level ≡ MARK_BITS * c.from-word.result + c.args.level % MARK_BITS = omega (arith, c.from-word.ensures) in
    rw c.if-any.true (put_bits c.args.marks.now c.from-word.result (c.args.level % MARK_BITS) c.args.level _ 1 (omega (arith, c.from-word.ensures)) is bit (bit_at_set_same w64 _ (c.args.level % MARK_BITS) bit) (λ i lt other. bit_at_set_other w64 _ (c.args.level % MARK_BITS) bit i other))

pub returns-else-any : goal.returns-else-any
returns-else-any c =
    let bit : c.args.level % MARK_BITS < MARK_BITS = omega arith in
    let is : c.args.level ≡ MARK_BITS * c.from-word.result + c.args.level % MARK_BITS = omega (arith, c.from-word.ensures) in
    rw c.if-any.false (put_bits c.args.marks.now c.from-word.result (c.args.level % MARK_BITS) c.args.level _ 0 (omega (arith, c.from-word.ensures)) is bit (bit_at_clear_same w64 _ (c.args.level % MARK_BITS) bit) (λ i lt other. bit_at_clear_other w64 _ (c.args.level % MARK_BITS) bit i lt other))
