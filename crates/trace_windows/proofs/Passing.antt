-- The ticks before a line: that of the lines before it, and those between.
use Rattle.std.proofs.Common.{◌≡◌, ℕ, zero, suc, ◌+◌, ◌-◌, ◌<◌, ◌≤◌, max, Bool, true, false, ◌⊎◌, inl, inr, Option, Some, None, [], refl, sym, ap, ◌∙◌, arith}
use Rattle.std.proofs.lemmas.Bool.{le-ltb, lt-ltb}
use Rattle.kernel_meaning.specs.Windows.{Schedule, owner, tick_from}
use Rattle.trace_windows.specs.Runs.{first}
use Rattle.trace_windows.specs.Standings.{Standing, passed_if}
use Rattle.trace_windows.specs.Uses.{ticks_used, use_at, use_from, use_if}
use Rattle.trace_windows.specs.declared.usage.Use.{Use}
use Rattle.trace_windows.proofs.Counting.{alike, two_parts}

-- those that stopped in the tick of the lines count for nothing after it
abbrev pub without_stops : Standing → Standing
without_stops s = record s { stopped = [] }

here : (schedule : Schedule) (s : Standing) (t : ℕ) → t ≤ s.now → use_from schedule s t ≡ use_at schedule s t
here schedule s t h = ap (λ (b : Bool). use_at schedule (passed_if b t s) t) (le-ltb s.now t h)

-- the tick of the last lines says nothing of the use
of_standing : (b : Bool) (o : Option ℕ) (s : Standing) (t : ℕ) → use_if b o (passed_if true t s) ≡ use_if b o (without_stops s)
of_standing true o s t = refl
of_standing false None s t = refl
of_standing false (Some zero) s t = refl
of_standing false (Some (suc p)) s t = refl

behind : (schedule : Schedule) (s : Standing) (t : ℕ) → s.now < t → use_from schedule s t ≡ use_at schedule (without_stops s) t
behind schedule s t h = ap (λ (b : Bool). use_at schedule (passed_if b t s) t) (lt-ltb s.now t h) ∙ of_standing s.is_down (owner schedule (tick_from s.origin t)) s t

pub apart : (a b : ℕ) → (a ≤ b) ⊎ (b < a)
apart zero b = inl (omega arith)
apart (suc a) zero = inr (omega arith)
apart (suc a) (suc b) = elim (apart a b) [ inl h ↦ inl (omega (arith, h)) | inr h ↦ inr (omega (arith, h)) ]

-- a tick of the lines that counts, and the ticks after it
from_now : (schedule : Schedule) (s : Standing) (u : Use) (rest : ℕ)
    → ticks_used (use_from schedule s) u s.now (1 + rest) ≡ ticks_used (use_at schedule s) u s.now 1 + ticks_used (use_at schedule (without_stops s)) u (s.now + 1) rest
from_now schedule s u rest =
    let parts = two_parts (use_from schedule s) u s.now 1 rest in
    let one = alike (use_from schedule s) (use_at schedule s) u s.now s.now 1 (λ i below. here schedule s (s.now + i) (omega (arith, below))) in
    let more = alike (use_from schedule s) (use_at schedule (without_stops s)) u (s.now + 1) (s.now + 1) rest (λ i below. behind schedule s (s.now + 1 + i) (omega arith)) in
    parts ∙ (ap (λ (n : ℕ). n + ticks_used (use_from schedule s) u (s.now + 1) rest) one ∙ ap (λ (n : ℕ). ticks_used (use_at schedule s) u s.now 1 + n) more)

abbrev pub at_now : Schedule → Standing → ℕ → Use → ℕ
at_now schedule s from u = ticks_used (use_at schedule s) u (max s.now from) (s.now + 1 - max s.now from)

abbrev pub after_now : Schedule → Standing → ℕ → ℕ → Use → ℕ
after_now schedule s from until u = ticks_used (use_at schedule (without_stops s)) u (max (s.now + 1) from) (until - max (s.now + 1) from)

pub all_passed : (schedule : Schedule) (s : Standing) (from until : ℕ) (u : Use) → s.now < until
    → at_now schedule s from u + after_now schedule s from until u ≡ ticks_used (use_from schedule s) u (first from s) (until - first from s)
all_passed schedule s from until u ahead = elim (apart from s.now) [
  | inl early ↦
      let old = use_from schedule s in
      let start : first from s ≡ s.now = omega (arith, early) in
      let begin : max s.now from ≡ s.now = omega (arith, early) in
      let next : max (s.now + 1) from ≡ s.now + 1 = omega (arith, early) in
      let one : s.now + 1 - s.now ≡ 1 = omega arith in
      let rest = until - (s.now + 1) in
      let all : until - s.now ≡ 1 + rest = omega (arith, ahead) in
      let left : at_now schedule s from u ≡ ticks_used (use_at schedule s) u s.now 1 = ap (λ (t : ℕ). ticks_used (use_at schedule s) u t (s.now + 1 - t)) begin ∙ ap (ticks_used (use_at schedule s) u s.now) one in
      let right : after_now schedule s from until u ≡ ticks_used (use_at schedule (without_stops s)) u (s.now + 1) rest = ap (λ (t : ℕ). ticks_used (use_at schedule (without_stops s)) u t (until - t)) next in
      let whole : ticks_used old u (first from s) (until - first from s) ≡ ticks_used old u s.now (1 + rest) = ap (λ (t : ℕ). ticks_used old u t (until - t)) start ∙ ap (ticks_used old u s.now) all in
      ap (λ (n : ℕ). n + after_now schedule s from until u) left ∙ (ap (λ (n : ℕ). ticks_used (use_at schedule s) u s.now 1 + n) right ∙ sym (whole ∙ from_now schedule s u rest))
  | inr late ↦
      let old = use_from schedule s in
      let start : first from s ≡ from = omega (arith, late) in
      let begin : s.now + 1 - max s.now from ≡ 0 = omega (arith, late) in
      let next : max (s.now + 1) from ≡ from = omega (arith, late) in
      let left : at_now schedule s from u ≡ 0 = ap (ticks_used (use_at schedule s) u (max s.now from)) begin in
      let right : after_now schedule s from until u ≡ ticks_used (use_at schedule (without_stops s)) u from (until - from) = ap (λ (t : ℕ). ticks_used (use_at schedule (without_stops s)) u t (until - t)) next in
      let whole : ticks_used old u (first from s) (until - first from s) ≡ ticks_used old u from (until - from) = ap (λ (t : ℕ). ticks_used old u t (until - t)) start in
      let same = alike old (use_at schedule (without_stops s)) u from from (until - from) (λ i below. behind schedule s (from + i) (omega (arith, late))) in
      ap (λ (n : ℕ). n + after_now schedule s from until u) left ∙ (none_before (after_now schedule s from until u) ∙ (right ∙ sym (whole ∙ same)))
]
  where
    none_before : (n : ℕ) → 0 + n ≡ n
    none_before n = omega arith
