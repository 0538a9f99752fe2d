-- A partition has no release window if and only if one is found.
use Rattle.finding_laws.proofs.Prelude.{◌≡◌, ℕ, ◌+◌, ◌∷◌, ◌∙◌, lacks_release, PartitionText, TableText, WindowText, partition_number, partition_row, window_row, ◌==◌, unwrap_or}
use Rattle.std.proofs.Common.{false, not, List, [], map, refl, sym, ap}
use Rattle.kernel_meaning.specs.Windows.{has_release}
use Rattle.module_meaning.specs.Table.{has_twice, lacks_release_from}
use Rattle.module_meaning.specs.TableRules.{same}
use Rattle.finding_laws.specs.Any.{has_any}
use Rattle.finding_laws.proofs.Found.{any_unless, two}
use Rattle.finding_laws.proofs.Numbers.{AreNumbered, are_numbered, have_same_name}
use Rattle.table_findings.specs.Schedule.{is_released, without_release, without_release_from}

release_any : (all : List PartitionText) (n : ℕ) (name : List ℕ) (ws : List WindowText) → ((word : List ℕ) → (unwrap_or (partition_number all word) 0 == n) ≡ same word name)
    → has_release (map (window_row all) ws) n ≡ is_released ws name
release_any all n name [] is = refl
release_any all n name (w ∷ ws) is = rw (is w.partition, release_any all n name ws is) refl

releases_any : (all : List PartitionText) (ws : List WindowText) (n i : ℕ) (ps : List PartitionText) → AreNumbered all n ps
    → lacks_release_from n (map (window_row all) ws) (map partition_row ps) ≡ has_any (without_release_from ws i ps)
unfolding lacks_release_from
releases_any all ws n i [] are = refl
releases_any all ws n i (p ∷ ps) are =
    two _ _ _ _
    (ap not (release_any all n p.name ws are.0) ∙ sym (any_unless (is_released ws p.name) _ _ refl refl))
    (releases_any all ws (n + 1) (i + 1) ps are.1)

pub missing_releases_any : (t : TableText) → has_twice have_same_name t.partitions ≡ false → lacks_release (map (window_row t.partitions) t.windows) (map partition_row t.partitions) ≡ has_any (without_release t)
missing_releases_any t apart = releases_any t.partitions t.windows 1 0 t.partitions (are_numbered t.partitions apart)
