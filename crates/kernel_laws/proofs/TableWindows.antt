-- The windows of an accepted module table are in order.
use Rattle.kernel_laws.proofs.Prelude.{◌≡◌, ℕ, ◌+◌, ◌≤◌, ℤ, nat_abs, true, false, List, ◌∷◌, map, refl, subst, ◌||◌, nat_lt, list_any, ltb-false, or_parts, BeginWithin}
use Rattle.std.proofs.Common.{pos, negsuc, []}
use Rattle.std.specs.Prelude.{◌+ℤ◌, int_lt}
use Rattle.module_meaning.specs.TableRules.{PartitionText, WindowText, exceeds_window, window_row, overlaps_after}
use Rattle.kernel_laws.proofs.WindowOrder.{AreInOrder, begin_within}

-- the rules that a window keeps if it begins at or after an end and ends within the frame
pub record WindowKeeps (frame end : ℕ) (offset size : ℤ) : Type 0 where
  pub next : offset +ℤ size ≡ pos (nat_abs offset + nat_abs size)
  pub after : end ≤ nat_abs offset
  pub some : 1 ≤ nat_abs size
  pub room : nat_abs offset + nat_abs size ≤ frame

pub window_keeps : (frame end : ℕ) (offset size : ℤ) → (int_lt offset (pos 0) || int_lt size (pos 1)) ≡ false → int_lt offset (pos end) ≡ false → int_lt (pos frame) (offset +ℤ size) ≡ false → WindowKeeps frame end offset size
window_keeps frame end (pos o) (pos n) limits begins ends =
    let l = or_parts (nat_lt o 0) (nat_lt n 1) limits in
    record { next = refl; after = ltb-false o end begins; some = ltb-false n 1 l.1; room = ltb-false frame (o + n) ends }
window_keeps frame end (pos o) (negsuc n) limits begins ends = let t : true ≡ false = (or_parts (nat_lt o 0) true limits).1 in absurd cc
window_keeps frame end (negsuc o) size limits begins ends = absurd cc

-- each window begins at or after the end of the one before, and ends within the frame
pub windows_in_order : (ps : List PartitionText) (frame end : ℕ) (ws : List WindowText) → overlaps_after (pos frame) (pos end) ws ≡ false → list_any exceeds_window ws ≡ false → AreInOrder frame end (map (window_row ps) ws)
unfolding overlaps_after exceeds_window
windows_in_order ps frame end [] apart limits = tt
windows_in_order ps frame end (w ∷ ws) apart limits =
    let a = or_parts _ (overlaps_after (pos frame) (w.offset +ℤ w.length) ws) apart in
    let b = or_parts (int_lt w.offset (pos end)) (int_lt (pos frame) (w.offset +ℤ w.length)) a.0 in
    let l = or_parts (exceeds_window w) (list_any exceeds_window ws) limits in
    let k = window_keeps frame end w.offset w.length l.0 b.0 b.1 in
    let next : overlaps_after (pos frame) (pos (nat_abs w.offset + nat_abs w.length)) ws ≡ false = subst (λ (z : ℤ). overlaps_after (pos frame) z ws ≡ false) k.next a.1 in
    (k.after, k.some, k.room, windows_in_order ps frame (nat_abs w.offset + nat_abs w.length) ws next l.1)

pub windows_begin : (ps : List PartitionText) (frame end : ℕ) (ws : List WindowText) → overlaps_after (pos frame) (pos end) ws ≡ false → list_any exceeds_window ws ≡ false → BeginWithin frame (map (window_row ps) ws)
windows_begin ps frame end ws apart limits = begin_within frame end (map (window_row ps) ws) (windows_in_order ps frame end ws apart limits)
