-- The total of a list of costs, as 64 bits hold it: its sum.
use Rattle.std.specs.Prelude.{ℕ, List, min}
use Rattle.std.specs.List.{sum}
use Rattle.pal_base.specs.declared.cost.Cost.{Cost}

-- a number as 64 bits hold it: beyond them it is the greatest that they do
abbrev pub held : ℕ → ℕ
held n = min n 18446744073709551615

abbrev pub comes_to : List ℕ → Cost
comes_to costs = record { ticks = held (sum costs) }
