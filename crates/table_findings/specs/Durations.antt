-- The partitions to which windows offer less than their duration, in a table whose keys, types, limits and names are right.
use Rattle.std.specs.Prelude.{ℕ, zero, suc, ◌+◌, ◌-◌, ◌/◌, ◌==◌, max, min, nat_abs, nat_lt, if◌then◌else◌, List, [], ◌∷◌, ◌++◌, codes, Option, Some, None}
use Rattle.module_meaning.specs.TableRules.{PartitionText, TableText, WindowText, same}
use Rattle.table_findings.specs.Findings.{Finding, Short}
use Rattle.table_findings.specs.Schedule.{partition_at}
use Rattle.table_findings.specs.Shape.{one}

-- the ticks that a window has in common with those from `low` up to `high`
abbrev pub common : ℕ → ℕ → WindowText → ℕ
common low high w = min high (nat_abs w.offset + nat_abs w.length) - max low (nat_abs w.offset)

-- the ticks from `low` up to `high` that windows offer to the partition of a name
abbrev pub offered : List ℕ → ℕ → ℕ → List WindowText → ℕ
offered name low high [] = 0
offered name low high (w ∷ ws) = (if same w.partition name then common low high w else 0) + offered name low high ws

-- the first of n periods, of which the first begins at `low`, that offers less than the duration: where it begins, and what it offers
abbrev pub first_short : ℕ → ℕ → PartitionText → List WindowText → Option (ℕ × ℕ)
first_short zero low p ws = None
first_short (suc n) low p ws =
    let given = offered p.name low (low + nat_abs p.period) ws in
    if nat_lt given (nat_abs p.duration) then Some (low, given) else first_short n (low + nat_abs p.period) p ws

abbrev pub short : ℕ → PartitionText → ℕ → ℕ → List Finding
short i p from given = one (partition_at i p) (Some (codes "duration")) (Short from given (nat_abs p.duration))

-- the finding of such a period
abbrev pub short_of : ℕ → PartitionText → Option (ℕ × ℕ) → List Finding
short_of i p None = []
short_of i p (Some found) = short i p found.0 found.1

abbrev pub short_period : ℕ → List WindowText → ℕ → PartitionText → List Finding
short_period frame ws i p = if nat_abs p.period == 0 then [] else short_of i p (first_short (frame / nat_abs p.period) 0 p ws)

abbrev pub short_periods_from : ℕ → List WindowText → ℕ → List PartitionText → List Finding
short_periods_from frame ws i [] = []
short_periods_from frame ws i (p ∷ ps) = short_period frame ws i p ++ short_periods_from frame ws (i + 1) ps

abbrev pub short_periods : TableText → List Finding
short_periods t = short_periods_from (nat_abs t.frame) t.windows 0 t.partitions
