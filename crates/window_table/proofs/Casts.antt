-- The numbers of a partition that keeps its limits fit into 32 bits.
use Rattle.std.proofs.Common.{◌≡◌, ◌≤◌, ℕ, ℤ, pos, negsuc, nat_abs, false, sym, arith}
use Rattle.std.specs.Prelude.{int_lt}
use Rattle.std.proofs.lemmas.Bool.{false≢true, ltb-false}
use Rattle.module_meaning.specs.TableRules.{PartitionText, exceeds_times, is_outside}
use Rattle.window_table.proofs.Rules.{or_first, or_second}
use lib.Dec.{T}
use lib.Signed.{non_neg}
use mir.Syntax.{w32}
use mir.Val.{Fits}

most : (low high n : ℕ) → is_outside low (pos high) (pos n) ≡ false → n ≤ high
most low high n h = ltb-false high n (or_second (int_lt (pos n) (pos low)) (int_lt (pos high) (pos n)) h)

at_most : (low high : ℕ) (z : ℤ) → high ≤ 16777216 → is_outside low (pos high) z ≡ false → T (non_neg z) × Fits w32 (nat_abs z)
at_most low high (pos n) few h =
    let below : n ≤ high = most low high n h in
    (tt, omega arith)
at_most low high (negsuc n) few h = absurd (false≢true (sym h))

period_at_most : (frame period : ℤ) → is_outside 1 (pos 16777216) frame ≡ false → is_outside 1 frame period ≡ false → T (non_neg period) × Fits w32 (nat_abs period)
period_at_most (pos f) period few h = at_most 1 f period (most 1 16777216 f few) h
period_at_most (negsuc f) period few h = absurd (false≢true (sym few))

duration_at_most : (frame period duration : ℤ) → is_outside 1 (pos 16777216) frame ≡ false → is_outside 1 frame period ≡ false → is_outside 0 period duration ≡ false
    → T (non_neg duration) × Fits w32 (nat_abs duration)
duration_at_most (pos f) (pos p) duration few h k =
    let frame : f ≤ 16777216 = most 1 16777216 f few in
    let period : p ≤ f = most 1 f p h in
    at_most 0 p duration (omega arith) k
duration_at_most (pos f) (negsuc p) duration few h k = absurd (false≢true (sym h))
duration_at_most (negsuc f) period duration few h k = absurd (false≢true (sym few))

pub period_fits : (frame : ℤ) (p : PartitionText) → is_outside 1 (pos 16777216) frame ≡ false → exceeds_times frame p ≡ false → T (non_neg p.period) × Fits w32 (nat_abs p.period)
period_fits frame p few h = period_at_most frame p.period few (or_first (is_outside 1 frame p.period) (is_outside 0 p.period p.duration) h)

pub duration_fits : (frame : ℤ) (p : PartitionText) → is_outside 1 (pos 16777216) frame ≡ false → exceeds_times frame p ≡ false → T (non_neg p.duration) × Fits w32 (nat_abs p.duration)
duration_fits frame p few h =
    duration_at_most frame p.period p.duration few (or_first (is_outside 1 frame p.period) (is_outside 0 p.period p.duration) h) (or_second (is_outside 1 frame p.period) (is_outside 0 p.period p.duration) h)
