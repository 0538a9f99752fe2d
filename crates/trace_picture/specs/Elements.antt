-- How many elements of a picture begin before a tick, and with which tick they are too many.
use Rattle.std.specs.Prelude.{◌≡◌, ℕ, ◌+◌, ◌<◌, ◌≤◌, nat_lt, if◌then◌else◌, List, [], ◌∷◌}
use Rattle.apex_types.specs.declared.identity.Ticks.{Ticks}
use Rattle.trace_picture.specs.declared.excess.Excess.{Excess}
use Rattle.trace_stays.specs.declared.span.Span.{Span}

abbrev pub count_before : ℕ → List Ticks → ℕ
count_before t [] = 0
count_before t (first ∷ rest) = (if nat_lt first.0 t then 1 else 0) + count_before t rest

-- The end before which at most 5,000 elements begin, and with whose tick there are more; and the number of all shapes.
pub record IsExcess (shown : Span) (begun : List Ticks) (all : ℕ) (e : Excess) : Type 0 where
  pub shapes : e.shapes ≡ all
  pub from : e.from ≡ shown.from
  pub elements : e.elements ≡ count_before e.until.0 begun
  pub few : e.elements ≤ 5000
  pub many : 5000 < count_before (e.until.0 + 1) begun
