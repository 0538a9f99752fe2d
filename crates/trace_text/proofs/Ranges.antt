-- Bytes between two places of a buffer.
use Rattle.std.proofs.Common.{◌≡◌, ℕ, ◌+◌, ◌-◌, ◌≤◌, List, ◌++◌, length, take, drop, Option, Some, None, sym, ap, ◌∙◌, arith, append_assoc, length-drop, length-take, take-append-drop}
use Rattle.std.specs.Prelude.{slice_range}
use Rattle.std.specs.Io.KnownBytes.{Consumes, Keeps, prepend_known}
use Rattle.std.proofs.lemmas.List.{drop-drop, drop-take}
use Rattle.std.proofs.Math.Seq.{take-append-add}

pub range_length : (xs : List ℕ) (start end : ℕ) → end ≤ length xs → length (slice_range xs start end) ≡ end - start
range_length xs start end low = simp (length-take, length-drop) (omega (arith, low))

-- the last of the bytes between two places
pub last_range : (xs : List ℕ) (start end count : ℕ) → start ≤ end → end ≤ length xs → count ≤ length (slice_range xs start end) → slice_range xs (end - count) end ≡ drop (length (slice_range xs start end) - count) (slice_range xs start end)
last_range xs start end count ordered low few =
    let len = range_length xs start end low in
    let skipped : ℕ = end - start - count in
    let first : length (slice_range xs start end) - count ≡ skipped = omega (arith, len) in
    let all : end - start ≡ skipped + count = omega (arith, len, few) in
    let own : end - (end - count) ≡ count = omega (arith, len, few) in
    let place : start + skipped ≡ end - count = omega (arith, len, few, ordered) in
    ap (λ (n : ℕ). take n (drop (end - count) xs)) own
    ∙ ap (λ (n : ℕ). take count (drop n xs)) (sym place)
    ∙ ap (take count) (sym (drop-drop skipped start xs))
    ∙ sym (drop-take skipped count (drop start xs))
    ∙ ap (λ (n : ℕ). drop skipped (take n (drop start xs))) (sym all)
    ∙ ap (λ (n : ℕ). drop n (slice_range xs start end)) (sym first)

split_take : (xs : List ℕ) (n m : ℕ) → n ≤ length xs → take (n + m) xs ≡ take n xs ++ take m (drop n xs)
split_take xs n m low =
    let len : length (take n xs) ≡ n = simp length-take (omega (arith, low)) in
    ap (take (n + m)) (sym (take-append-drop n xs))
    ∙ ap (λ (k : ℕ). take (k + m) (take n xs ++ drop n xs)) (sym len)
    ∙ take-append-add (take n xs) (drop n xs) m

from_front : (xs : List ℕ) (start end : ℕ) → start ≡ 0 → slice_range xs start end ≡ take end xs
from_front xs start end front =
    ap (λ (k : ℕ). slice_range xs k end) front
    ∙ (let whole : end - 0 ≡ end = omega arith in ap (λ (k : ℕ). take k xs) whole)

-- the bytes that were read follow those that were there
pub read_behind : (old new : List ℕ) (start end count : ℕ) → start ≡ 0 → take end new ≡ take end old → end + count ≤ length new → slice_range new start (end + count) ≡ slice_range old start end ++ take count (drop end new)
read_behind old new start end count zero front fits =
    from_front new start (end + count) zero
    ∙ split_take new end count (omega (arith, fits))
    ∙ ap (λ (xs : List ℕ). xs ++ take count (drop end new)) (front ∙ sym (from_front old start end zero))

pub same_front : (old new : List ℕ) (start end : ℕ) → start ≡ 0 → take end new ≡ take end old → slice_range new start end ≡ slice_range old start end
same_front old new start end zero front = from_front new start end zero ∙ front ∙ sym (from_front old start end zero)

-- the bytes that the reader gave follow those that were read ahead
pub read_ahead : (a b : Option (List ℕ)) (old new more : List ℕ) → Consumes a b more → new ≡ old ++ more → Keeps (prepend_known old a) (prepend_known new b)
read_ahead None b old new more consumed is = tt
read_ahead (Some xs) None old new more consumed is = absurd consumed
read_ahead (Some xs) (Some ys) old new more consumed is = ap (λ (zs : List ℕ). zs ++ ys) is ∙ append_assoc old more ys ∙ ap (λ (zs : List ℕ). old ++ zs) (sym consumed)

pub kept_ahead : (a b : Option (List ℕ)) (old new : List ℕ) → Keeps a b → new ≡ old → Keeps (prepend_known old a) (prepend_known new b)
kept_ahead None b old new kept is = tt
kept_ahead (Some xs) None old new kept is = absurd kept
kept_ahead (Some xs) (Some ys) old new kept is = ap (λ (zs : List ℕ). zs ++ ys) is ∙ ap (λ (zs : List ℕ). old ++ zs) kept
