-- What is wrong with the windows and the periods of a table whose keys and types are right.
use Rattle.std.specs.Prelude.{ℕ, ℤ, pos, ◌+◌, ◌+ℤ◌, ◌%◌, ◌==◌, ◌&&◌, ◌||◌, Bool, int_lt, nat_abs, if◌then◌else◌, List, [], ◌∷◌, ◌++◌, codes, Some, None}
use Rattle.std.specs.List.{list_any}
use Rattle.module_meaning.specs.TableRules.{PartitionText, TableText, WindowText, same}
use Rattle.table_findings.specs.Findings.{Finding, NoRelease, OddPeriod, Overlaps, PastFrame}
use Rattle.table_findings.specs.Shape.{one}
use Rattle.table_findings.specs.Subjects.{Subject, Partition, Window}

abbrev pub partition_at : ℕ → PartitionText → Subject
partition_at i p = Partition (record { index = i; name = Some p.name })

abbrev pub window_at : ℕ → WindowText → Subject
window_at i w = Window (record { index = i; name = Some w.partition })

-- ---- a window begins before the end of the one before it, or ends past the frame

abbrev pub window_end : WindowText → ℤ
window_end w = w.offset +ℤ w.length

abbrev pub early : ℤ → ℕ → WindowText → List Finding
early before i w = if int_lt w.offset before then one (window_at i w) (Some (codes "offset")) (Overlaps w.offset before) else []

abbrev pub late : ℤ → ℕ → WindowText → List Finding
late frame i w = if int_lt frame (window_end w) then one (window_at i w) (Some (codes "length")) (PastFrame (window_end w) frame) else []

abbrev pub placed : ℤ → ℤ → ℕ → WindowText → List Finding
placed frame before i w = early before i w ++ late frame i w

abbrev pub overlaps_from : ℤ → ℤ → ℕ → List WindowText → List Finding
overlaps_from frame before i [] = []
overlaps_from frame before i (w ∷ ws) = placed frame before i w ++ overlaps_from frame (window_end w) (i + 1) ws

abbrev pub overlaps : TableText → List Finding
overlaps t = overlaps_from t.frame (pos 0) 0 t.windows

-- ---- a period does not divide the frame

abbrev pub odd_period : ℕ → ℕ → PartitionText → List Finding
odd_period frame i p =
    let period = nat_abs p.period in
    if period == 0 || frame % period == 0 then [] else one (partition_at i p) (Some (codes "period")) (OddPeriod period frame)

abbrev pub odd_periods_from : ℕ → ℕ → List PartitionText → List Finding
odd_periods_from frame i [] = []
odd_periods_from frame i (p ∷ ps) = odd_period frame i p ++ odd_periods_from frame (i + 1) ps

abbrev pub odd_periods : TableText → List Finding
odd_periods t = odd_periods_from (nat_abs t.frame) 0 t.partitions

-- ---- a partition has no release window

abbrev pub is_released : List WindowText → List ℕ → Bool
is_released windows name = list_any (λ w. w.release && same w.partition name) windows

abbrev pub without_release_from : List WindowText → ℕ → List PartitionText → List Finding
without_release_from windows i [] = []
without_release_from windows i (p ∷ ps) = (if is_released windows p.name then [] else one (partition_at i p) None NoRelease) ++ without_release_from windows (i + 1) ps

abbrev pub without_release : TableText → List Finding
without_release t = without_release_from t.windows 0 t.partitions
