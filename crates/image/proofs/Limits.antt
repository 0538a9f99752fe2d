-- An image whose fields were read has few partitions, none has period 0, and its windows can be judged.
use Rattle.std.proofs.Common.{◌≡◌, ℕ, ◌≤◌, Bool, false, cond, List, [], ◌∷◌, ◌++◌, length, map, get_or, Fits, w8, Result, Ok, Err, refl, sym, ap, ◌∙◌, arith}
use Rattle.std.specs.Prelude.{◌==◌}
use Rattle.std.specs.List.{list_any}
use Rattle.std.proofs.lemmas.Bool.{or_from, ne_eqb}
use Rattle.std.proofs.lemmas.List.{length-map}
use Rattle.apex_types.specs.declared.version.Limits.{Limits}
use Rattle.apex_types.specs.Versions.{limits_of}
use Rattle.apex_types.specs.declared.row.WindowRow.{WindowRow}
use Rattle.apex_types.specs.declared.limits.TheConstants.{MOST_PARTITIONS}
use Rattle.module_meaning.specs.Table.{Partition}
use Rattle.machine_meaning.specs.Image.{Item, Image}
use Rattle.machine_meaning.specs.ImageReading.{Fault, Limit, fields_at, keeps_table_rules}
use Rattle.module_meaning.specs.ImageRules.{has_wrong_window, keeps_rules}
use Rattle.kernel_meaning.specs.Windows.{Schedule}
use Rattle.machine_meaning.specs.ImageLimits.{EachBeside, IsItem, IsWithinLimits}
use Rattle.machine_laws.proofs.ImageLaws.{fields_reads}
use Rattle.machine_laws.proofs.VersionLimits.{limits_narrow}
use Rattle.machine_laws.proofs.Releases.{windows_in_order}
use Rattle.window_table.specs.Orders.{AreApart}
use Rattle.window_table.proofs.Apart.{apart}
use Rattle.window_table.specs.declared.table.ChannelRow.{ChannelRow}
use Rattle.window_table.specs.Views.{partition_view}
use Rattle.image.specs.declared.item.PartitionItem.{PartitionItem}
use Rattle.image.specs.declared.reading.image.Fields.{Fields}
use Rattle.image.specs.Items.{item_of, items_of, rows_of, channels_of}
use Rattle.image.specs.Views.{fields_of}

-- the rows are those of the items
pub rows_same : (its : List PartitionItem) → rows_of its ≡ map (λ (it : Item). it.partition) (items_of its)
rows_same [] = refl
rows_same (it ∷ its) = ap (λ (rows : List Partition). partition_view it.row ∷ rows) (rows_same its)

pub same_count : (its : List PartitionItem) → length (rows_of its) ≡ length its
same_count its = length-map its (λ (it : PartitionItem). partition_view it.row)

none_empty : (limits : Limits) (frame : ℕ) (before : List Item) (its : List PartitionItem) → EachBeside (IsItem limits frame) before (items_of its) → list_any (λ p. p.period == 0) (rows_of its) ≡ false
none_empty limits frame before [] h = refl
none_empty limits frame before (it ∷ its) h =
    or_from (it.row.period == 0) _ (ne_eqb it.row.period 0 (λ e. omega (arith, e, h.0.partition.period.least))) (none_empty limits frame (before ++ item_of it ∷ []) its h.1)

pub few_within : (f : Fields) → IsWithinLimits (fields_of f) → length f.partitions.items ≤ MOST_PARTITIONS
few_within f h = omega (arith, length-map f.partitions.items item_of, h.item_count.most, (limits_narrow f.version).partitions)

pub periods_within : (f : Fields) → IsWithinLimits (fields_of f) → list_any (λ p. p.period == 0) (rows_of f.partitions.items) ≡ false
periods_within f h = none_empty (limits_of f.version) f.frame [] f.partitions.items h.items

-- an image whose fields were read
pub read_limits : (bytes rest : List ℕ) (f : Fields) → ((i : ℕ) → Fits w8 (get_or bytes i 0)) → fields_at bytes ≡ Ok (fields_of f, rest) → IsWithinLimits (fields_of f)
read_limits bytes rest f fits e = (fields_reads.takes bytes (fields_of f, rest) (λ i. omega (arith, fits i)) e).1

-- ---- the rules, judged of the fields as the code holds them

pub windows_apart : (f : Fields) (count : ℕ) (ws : List WindowRow) (wrong : Bool) → IsWithinLimits (fields_of f) → ws ≡ f.windows.items → wrong ≡ has_wrong_window (record { frame = f.frame; windows = ws }) count → wrong ≡ false → AreApart f.frame f.windows.items
windows_apart f count ws wrong h same e none =
    apart f.frame f.windows.items (windows_in_order f.frame count f.windows.items h.windows (ap (λ (xs : List WindowRow). has_wrong_window (record { frame = f.frame; windows = xs }) count) (sym same) ∙ sym e ∙ none))

pub kept_is : (f : Fields) (kept : Bool) (its : List PartitionItem) (rows : List ChannelRow) → its ≡ f.partitions.items → rows ≡ f.channels.items → kept ≡ keeps_rules (record { frame = f.frame; windows = f.windows.items }) (rows_of its) (channels_of rows) → keeps_table_rules (fields_of f) ≡ kept
kept_is f kept its rows i r e =
    let s : Schedule = record { frame = f.frame; windows = f.windows.items } in
    ap (λ (ps : List Partition). keeps_rules s ps (channels_of f.channels.items)) (sym (rows_same f.partitions.items))
    ∙ ap (λ (xs : List PartitionItem). keeps_rules s (rows_of xs) (channels_of f.channels.items)) (sym i)
    ∙ ap (λ (xs : List ChannelRow). keeps_rules s (rows_of its) (channels_of xs)) (sym r)
    ∙ sym e

abbrev pub ok_image : Image → Result Image Fault
ok_image image = Ok image

pub refused : (f : Fields) → keeps_table_rules (fields_of f) ≡ false → cond (keeps_table_rules (fields_of f)) (ok_image (fields_of f)) (Err Limit) ≡ Err Limit
refused f h = ap (λ (b : Bool). cond b (ok_image (fields_of f)) (Err Limit)) h
