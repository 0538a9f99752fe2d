-- The lines of a window, one line after another.
use Rattle.std.proofs.Common.{◌≡◌, ◌≤◌, ℕ, ◌+◌, ◌-◌, ◌^◌, Bool, true, false, if◌then◌else◌, List, [], ◌∷◌, length, Option, Some, None, refl, ap, ◌∙◌, arith}
use Rattle.apex_types.specs.declared.identity.Ticks.{Ticks}
use Rattle.trace_stays.specs.declared.span.Span.{Span}
use Rattle.trace_view.specs.Counting.{capped}
use Rattle.trace_view.specs.Extents.{AreLinesOf, counted_lines, extent_after, first_in, first_of, last_behind, opened, with_line, with_line_if}
use Rattle.trace_view.specs.Tallies.{has_tick}
use Rattle.trace_view.specs.declared.extent.Extent.{Extent}

line_if-window : (b : Bool) (t : Ticks) (e : Extent) → (with_line_if b t e).window ≡ e.window
line_if-window true t e = refl
line_if-window false t e = refl

line-window : (t : Ticks) (e : Extent) → (with_line t e).window ≡ e.window
line-window t e = line_if-window (has_tick e.window t.0) t e

window_after : (lines : List Ticks) (e : Extent) → (extent_after e lines).window ≡ e.window
window_after [] e = refl
window_after (t ∷ ts) e = window_after ts (with_line t e) ∙ line-window t e

-- ---- how many

capped_one : (a : ℕ) (t : Ticks) (others : List Ticks) → capped (capped (a + 1) + length others) ≡ capped (a + length (t ∷ others))
capped_one a t others = omega arith

capped_below : (a : ℕ) → a ≤ 2 ^ 64 - 1 → a ≡ capped (a + 0)
capped_below a h = omega (arith, h)

capped_le : (a : ℕ) → capped a ≤ 2 ^ 64 - 1
capped_le a = omega arith

line_if-bounded : (b : Bool) (t : Ticks) (e : Extent) → e.lines ≤ 2 ^ 64 - 1 → (with_line_if b t e).lines ≤ 2 ^ 64 - 1
line_if-bounded true t e h = capped_le (e.lines + 1)
line_if-bounded false t e h = h

line_if-lines : (b : Bool) (t : Ticks) (e : Extent) (others : List Ticks)
    → capped ((with_line_if b t e).lines + length others) ≡ capped (e.lines + length (if b then t ∷ others else others))
line_if-lines true t e others = capped_one e.lines t others
line_if-lines false t e others = refl

lines_after : (lines : List Ticks) (e : Extent) → e.lines ≤ 2 ^ 64 - 1 → (extent_after e lines).lines ≡ capped (e.lines + length (counted_lines e.window lines))
lines_after [] e h = capped_below e.lines h
lines_after (t ∷ ts) e h =
    lines_after ts (with_line t e) (line_if-bounded (has_tick e.window t.0) t e h)
    ∙ ap (λ (w : Span). capped ((with_line t e).lines + length (counted_lines w ts))) (line-window t e)
    ∙ line_if-lines (has_tick e.window t.0) t e (counted_lines e.window ts)

-- ---- the first

abbrev first_behind : Option Ticks → List Ticks → Option Ticks
first_behind None lines = first_in lines
first_behind (Some t) lines = Some t

stays_first : (o : Option Ticks) (t : Ticks) (others : List Ticks) → Some (first_of o t) ≡ first_behind o (t ∷ others)
stays_first None t others = refl
stays_first (Some first) t others = refl

line_if-first : (b : Bool) (t : Ticks) (e : Extent) (others : List Ticks)
    → first_behind (with_line_if b t e).first others ≡ first_behind e.first (if b then t ∷ others else others)
line_if-first true t e others = stays_first e.first t others
line_if-first false t e others = refl

first_nil : (o : Option Ticks) → o ≡ first_behind o []
first_nil None = refl
first_nil (Some t) = refl

first_after : (lines : List Ticks) (e : Extent) → (extent_after e lines).first ≡ first_behind e.first (counted_lines e.window lines)
first_after [] e = first_nil e.first
first_after (t ∷ ts) e =
    first_after ts (with_line t e)
    ∙ ap (λ (w : Span). first_behind (with_line t e).first (counted_lines w ts)) (line-window t e)
    ∙ line_if-first (has_tick e.window t.0) t e (counted_lines e.window ts)

-- ---- the last

line_if-last : (b : Bool) (t : Ticks) (e : Extent) (others : List Ticks)
    → last_behind (with_line_if b t e).last others ≡ last_behind e.last (if b then t ∷ others else others)
line_if-last true t e others = refl
line_if-last false t e others = refl

last_after : (lines : List Ticks) (e : Extent) → (extent_after e lines).last ≡ last_behind e.last (counted_lines e.window lines)
last_after [] e = refl
last_after (t ∷ ts) e =
    last_after ts (with_line t e)
    ∙ ap (λ (w : Span). last_behind (with_line t e).last (counted_lines w ts)) (line-window t e)
    ∙ line_if-last (has_tick e.window t.0) t e (counted_lines e.window ts)

from_none : (n : ℕ) → capped (0 + n) ≡ capped n
from_none n = omega arith

pub lines_counted : (from : Ticks) (to : Option Ticks) (lines : List Ticks) → AreLinesOf lines (opened from to).window (extent_after (opened from to) lines)
lines_counted from to lines = record {
  number = lines_after lines (opened from to) (omega arith) ∙ from_none (length (counted_lines (opened from to).window lines));
  first = first_after lines (opened from to);
  last = last_after lines (opened from to);
  same = window_after lines (opened from to);
}
