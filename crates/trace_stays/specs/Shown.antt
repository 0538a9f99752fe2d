-- The ticks of a trace that are shown.
use Rattle.std.specs.Prelude.{ℕ, ◌-◌, ◌^◌, max, Bool, true, false, Option, Some, None}
use Rattle.std.proofs.Math.Dec.{ltb}
use Rattle.apex_types.specs.declared.identity.Ticks.{Ticks}
use Rattle.trace_stays.specs.Stays.{behind, span, tick}
use Rattle.trace_stays.specs.declared.shown.ShownTicks.{ShownTicks}
use Rattle.trace_stays.specs.declared.span.Span.{Span}

-- nothing was read yet
abbrev pub shown_from : Ticks → Option Ticks → ShownTicks
shown_from from to = record { from = from; to = to; behind = from }

-- whether a line of this tick is before the end that is given
abbrev pub is_before_end : Option Ticks → ℕ → Bool
is_before_end None t = true
is_before_end (Some to) t = ltb t to.0

-- A line of this tick was read. Without a given end the shown ticks end with the last line.
abbrev pub with_read_if : Bool → ℕ → ShownTicks → ShownTicks
with_read_if true t s = record s { behind = tick (max s.behind.0 (behind t)) }
with_read_if false t s = s

abbrev pub with_read : ℕ → ShownTicks → ShownTicks
with_read t s = with_read_if (is_before_end s.to t) t s

-- the ticks from one on and before the other; none if the other is not later
abbrev pub between : Ticks → ℕ → Span
between from until = span from.0 (max from.0 until)

-- The ticks that are shown: before the end that is given, or else up to the last line.
abbrev pub end_of : Option Ticks → ℕ → ℕ
end_of None last = last
end_of (Some to) last = to.0

abbrev pub shown_ticks : ShownTicks → Span
shown_ticks s = between s.from (end_of s.to s.behind.0)

-- the ticks that are shown whatever follows
abbrev pub open_ticks : ShownTicks → Span
open_ticks s = between s.from (end_of s.to (2 ^ 64 - 1))
