-- Which lines and ticks are counted.
use Rattle.std.specs.Prelude.{◌≡◌, ◌+◌, ◌-◌, ◌^◌, Bool, true, false, if◌then◌else◌, List, [], ◌∷◌, length, Option, Some, None}
use Rattle.apex_types.specs.declared.identity.Ticks.{Ticks}
use Rattle.trace_stays.specs.Stays.{behind, tick}
use Rattle.trace_stays.specs.declared.span.Span.{Span}
use Rattle.trace_view.specs.Counting.{capped}
use Rattle.trace_view.specs.Tallies.{has_tick}
use Rattle.trace_view.specs.declared.extent.Extent.{Extent}

-- the end that is given, or else the greatest tick
abbrev pub end_of : Option Ticks → Ticks
end_of None = tick (2 ^ 64 - 1)
end_of (Some until) = until

abbrev pub opened : Ticks → Option Ticks → Extent
opened from to = record { lines = 0; first = None; last = None; window = record { from = from; until = end_of to } }

-- the first stays what it is
abbrev pub first_of : Option Ticks → Ticks → Ticks
first_of None t = t
first_of (Some first) t = first

abbrev pub with_line_if : Bool → Ticks → Extent → Extent
with_line_if true t e = record e { lines = capped (e.lines + 1); first = Some (first_of e.first t); last = Some t }
with_line_if false t e = e

-- a line counts if its tick is in the window
abbrev pub with_line : Ticks → Extent → Extent
with_line t e = with_line_if (has_tick e.window t.0) t e

-- the end that is given; or else the tick after the last line, and without lines the tick where it begins
abbrev pub closed_at : Option Ticks → Option Ticks → Ticks → Ticks
closed_at (Some until) last from = until
closed_at None (Some last) from = tick (behind last.0)
closed_at None None from = from

abbrev pub closed : Option Ticks → Extent → Extent
closed to e = record e { window = record { from = e.window.from; until = closed_at to e.last e.window.from } }

-- ---- all lines together

-- the ticks of the lines that count
abbrev pub counted_lines : Span → List Ticks → List Ticks
counted_lines window [] = []
counted_lines window (t ∷ ts) = if has_tick window t.0 then t ∷ counted_lines window ts else counted_lines window ts

abbrev pub first_in : List Ticks → Option Ticks
first_in [] = None
first_in (t ∷ ts) = Some t

abbrev pub last_behind : Option Ticks → List Ticks → Option Ticks
last_behind before [] = before
last_behind before (t ∷ ts) = last_behind (Some t) ts

-- after lines of these ticks
abbrev pub extent_after : Extent → List Ticks → Extent
extent_after e [] = e
extent_after e (t ∷ ts) = extent_after (with_line t e) ts

-- the lines of these ticks that are in the window
pub record AreLinesOf (lines : List Ticks) (window : Span) (e : Extent) : Type 0 where
  pub number : e.lines ≡ capped (length (counted_lines window lines))
  pub first : e.first ≡ first_in (counted_lines window lines)
  pub last : e.last ≡ last_behind None (counted_lines window lines)
  pub same : e.window ≡ window
