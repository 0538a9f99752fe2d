-- For each partition, a run writes what the partition shows when it runs alone.
use Rattle.module.proofs.Prelude.{◌≡◌, ◌≤◌, ◌^◌, ℕ, List, Option, Result, Ok, Err, OnOk, sym, ◌∙◌, MOST_TICKS, DeviceLine, verdict_for, Image, IsLawful, Fault, part_of_slice, Machine, HaveTicked, fresh_machine, Means, Runs, RunFault}
use Rattle.std.proofs.Common.{subst}
use Rattle.isolation.proofs.SourceLaw.{source_isolation}
use Rattle.module.specs.Isolated.{AreAlone, IsIsolated, WritesAlone}
use Rattle.module.specs.SourcesIsolated.{IsSourceIsolated}
use Rattle.module.specs.declared.fault.BuildAndRunFault.{BuildAndRunFault}
use Rattle.module.proofs.Headline.{ok_image, image_is}
use Rattle.module.proofs.Machines.{calls_write_the_trace}

parts_alone : (image : Image) (devices : List ℕ) (lines : List DeviceLine) (n : ℕ) → IsLawful image → verdict_for image devices ≡ Ok lines → AreAlone image lines n
parts_alone image devices lines n lawful taken p s e = part_of_slice image devices lines p s n lawful taken e

-- a run of the image that was loaded
pub run_isolated : (read : Result Image Fault) (loaded : Image) (devices : List ℕ) (n : ℕ) (old new : Option (List ℕ)) (answer : Result (Unit {0}) RunFault)
    → IsLawful loaded → read ≡ ok_image loaded → Runs read devices n old new answer → OnOk answer (IsIsolated read devices n old new)
run_isolated read loaded devices n old new (Ok x) lawful is (image, lines, r, out) =
    let same : loaded ≡ image = image_is loaded image (sym is ∙ r.loaded) in
    (image, lines, r, record { written = out; alone = parts_alone image devices lines n (subst IsLawful same lawful) r.taken })
run_isolated read loaded devices n old new (Err f) lawful is h = tt

-- a run of what was built
pub sources_isolated : (table : List ℕ) (sources : List (List ℕ)) (devices : List ℕ) (n : ℕ) (old new : Option (List ℕ)) (answer : Result (Unit {0}) BuildAndRunFault)
    → Means table sources devices n old new answer → OnOk answer (IsSourceIsolated table sources devices n old new)
sources_isolated table sources devices n old new (Ok x) (t, programs, lines, r, out) =
    let rows = r.accepted.rows in
    (t, programs, lines, r, record { written = out; alone = λ p row program e f. source_isolation rows.0 t programs rows.2 devices lines p row program n r.taken e f })
sources_isolated table sources devices n old new (Err f) h = tt

-- calls of a machine's tick
pub calls_isolated : (image : Image) (devices : List ℕ) (lines : List DeviceLine) (calls n : ℕ) (last : Machine) (old new : Option (List ℕ)) (before now : ℕ)
    → IsLawful image → verdict_for image devices ≡ Ok lines → n ≤ MOST_TICKS → HaveTicked lines calls n (fresh_machine image) last old new before now (Ok tt) → WritesAlone image lines n old new
calls_isolated image devices lines calls n last old new before now lawful taken few h =
    record { written = calls_write_the_trace image lines calls n last old new before now (Ok tt) few h; alone = parts_alone image devices lines n lawful taken }
