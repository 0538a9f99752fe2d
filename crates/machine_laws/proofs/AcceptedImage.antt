-- An accepted table with lawful sections is a lawful image.
use Rattle.std.proofs.Common.{◌≡◌, ℕ, ◌+◌, ◌≤◌, true, false, List, [], ◌∷◌, length, map, Ok, refl, sym, subst}
use Rattle.std.specs.List.{list_any, AllByRecursion, All}
use Rattle.std.proofs.lemmas.Bool.{and_from, or_from, not_from_false, le-ltb}
use Rattle.apex_types.specs.Versions.{third_limits}
use Rattle.apex_types.specs.declared.row.WindowRow.{WindowRow}
use Rattle.toml.specs.Data.{Members}
use Rattle.module_meaning.specs.Table.{Table, Partition}
use Rattle.machine_meaning.specs.Image.{Item}
use Rattle.module_meaning.specs.TableRules.{TableText}
use Rattle.module_meaning.specs.Table.{has_odd_period, has_short_period, lacks_release, has_wrong_ends}
use Rattle.module_meaning.specs.ImageRules.{is_wrong_window, has_wrong_window, has_unknown_port, keeps_rules}
use Rattle.module_meaning.specs.TableRules.{numbered, verdict}
use Rattle.machine_meaning.specs.ImageLimits.{IsSection, IsLawful}
use Rattle.machine_meaning.proofs.Beside.{each_at}
use Rattle.machine_laws.proofs.AcceptedTable.{AcceptedTable, accepted_table, image_of, table_limits, window_numbers}
use Rattle.machine_laws.proofs.KnownPorts.{ports_known}

no_wrong_window : (frame count : ℕ) (ws : List WindowRow) → AllByRecursion (λ (w : WindowRow). w.offset + w.length ≤ frame) ws → AllByRecursion (λ (w : WindowRow). (1 ≤ w.partition.0) × (w.partition.0 ≤ count)) ws → list_any (is_wrong_window frame count) ws ≡ false
no_wrong_window frame count [] room known = refl
no_wrong_window frame count (w ∷ ws) room known =
    or_from (is_wrong_window frame count w) _ (or_from _ _ (or_from _ _ (le-ltb w.partition.0 1 known.0.0) (le-ltb count w.partition.0 known.0.1)) (le-ltb frame (w.offset + w.length) room.0)) (no_wrong_window frame count ws room.1 known.1)

text_ports : (text : TableText) → has_unknown_port (numbered text).partitions (numbered text).channels ≡ false
unfolding numbered
text_ports text = ports_known text.partitions text.channels

table_keeps : (text : TableText) (t : Table) → AcceptedTable text t → AllByRecursion (λ (w : WindowRow). w.offset + w.length ≤ t.schedule.frame) t.schedule.windows → keeps_rules t.schedule t.partitions t.channels ≡ true
table_keeps text t a room =
    let ports = subst (λ (x : Table). has_unknown_port x.partitions x.channels ≡ false) a.is (text_ports text) in
    and_from _ _ (and_from _ _ (and_from _ _ (and_from _ _ (and_from _ _
    (not_from_false (has_wrong_window t.schedule (length t.partitions)) (no_wrong_window t.schedule.frame (length t.partitions) t.schedule.windows room (window_numbers text t a)))
    (not_from_false (has_odd_period t.schedule.frame t.partitions) a.periods))
    (not_from_false (has_short_period t.schedule t.partitions) a.durations))
    (not_from_false (lacks_release t.schedule.windows t.partitions) a.releases))
    (not_from_false (has_unknown_port t.partitions t.channels) ports))
    (not_from_false (has_wrong_ends t.partitions t.channels) a.ends)

-- An accepted table with lawful sections is a lawful image.
pub accepted_image : (ms : Members) (t : Table) (items : List Item) → verdict ms ≡ Ok t → map (λ (it : Item). it.partition) items ≡ t.partitions → All (λ (it : Item). IsSection third_limits it.partition.period it.section) items
    → IsLawful (image_of t items)
accepted_image ms t items h rows sections =
    let a = accepted_table ms t h in
    let limits = table_limits a.0 t items a.1 rows (each_at _ items sections) in
    record { limits = limits.0; rules = subst (λ (ps : List Partition). keeps_rules t.schedule ps t.channels ≡ true) (sym rows) (table_keeps a.0 t a.1 limits.1) }
