-- The lines of two traces, partition by partition.
use Rattle.std.specs.Prelude.{◌≡◌, ℕ, ◌<◌, true, false, not, List, [], ◌∷◌, ◌++◌, Option, Some, None, IfSome, filter, slice_get, if◌then◌else◌}
use Rattle.std.specs.Option.{option_to_list}
use Rattle.apex_types.specs.declared.event.Event.{Event}
use Rattle.trace_lines.specs.Parts.{IsJudged, IsPart, IsSettled, part}
use Rattle.trace_lines.specs.declared.part.Difference.{Difference}
use Rattle.trace_lines.specs.declared.part.Part.{Part}
use Rattle.trace_stays.specs.Same.{is_same_partition}

-- the lines of the other partitions
abbrev pub others : Option (List ℕ) → List Event → List Event
others p events = filter (λ (e : Event). not (is_same_partition p e.partition)) events

-- These lines of two traces were read up to a tick: by each part those of its partition, and there are no more.
abbrev pub AreParts : List Part → ℕ → List Event → List Event → Type 0
AreParts [] now a b = (a ≡ []) × (b ≡ [])
AreParts (p ∷ ps) now a b =
    IsPart p (part p.partition a) (part p.partition b) × IsSettled p.apart now × AreParts ps now (others p.partition a) (others p.partition b)

-- ---- the part of a partition

abbrev pub IsNoneOf : Option (List ℕ) → List Part → Type 0
IsNoneOf q parts = (k : ℕ) (p : Part) → slice_get parts k ≡ Some p → is_same_partition p.partition q ≡ false

-- the first part of this partition is at this place
abbrev pub IsPlaceOf : Option (List ℕ) → List Part → ℕ → Type 0
IsPlaceOf q parts place =
    ((p : Part) × (slice_get parts place ≡ Some p) × (is_same_partition p.partition q ≡ true))
    × ((k : ℕ) (p : Part) → k < place → slice_get parts k ≡ Some p → is_same_partition p.partition q ≡ false)

-- ---- what is reported

-- what is reported of a part, if anything is
abbrev pub IsFinishedAs : Part → Option Difference → Type 0
IsFinishedAs p told = IfSome told (λ (d : Difference). d.partition ≡ p.partition) × ((a b : List Event) → IsPart p a b → IsJudged told a b)

abbrev pub AreFinished : List Part → List Difference → Type 0
AreFinished [] ds = ds ≡ []
AreFinished (p ∷ ps) ds =
    (told : Option Difference) × (rest : List Difference) × IsFinishedAs p told × (ds ≡ option_to_list told ++ rest) × AreFinished ps rest

-- what is reported of a partition
abbrev pub told_of : Option (List ℕ) → List Difference → Option Difference
told_of q [] = None
told_of q (d ∷ ds) = if is_same_partition d.partition q then Some d else told_of q ds

-- For each partition its first difference is reported, and none only if its lines are the same in both traces.
abbrev pub AreDifferences : List Difference → List Event → List Event → Type 0
AreDifferences ds a b = (q : Option (List ℕ)) → IsJudged (told_of q ds) (part q a) (part q b)
