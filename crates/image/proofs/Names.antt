-- Names of rows are those of their views.
use Rattle.std.proofs.Common.{◌≡◌, ℕ, List, [], ◌∷◌, Bool, true, Ok, Err, refl, ap}
use Rattle.std.specs.Prelude.{◌||◌}
use Rattle.std.specs.List.{list_any}
use Rattle.std.specs.Str.{bytes_eq}
use Rattle.window_table.specs.declared.table.ChannelRow.{ChannelRow}
use Rattle.image.specs.declared.item.PartitionItem.{PartitionItem}
use Rattle.machine_meaning.specs.ImageReading.{Order, name_at, fresh_name_at, is_partition, is_channel}
use Rattle.image.specs.Items.{items_of, channels_of}

pub partition_names : (items : List PartitionItem) (name : List ℕ) → is_partition (items_of items) name ≡ list_any (λ it. bytes_eq it.row.name name) items
partition_names [] name = refl
partition_names (it ∷ items) name = ap (λ (b : Bool). bytes_eq it.row.name name || b) (partition_names items name)

pub channel_names : (rows : List ChannelRow) (name : List ℕ) → is_channel (channels_of rows) name ≡ list_any (λ row. bytes_eq row.name name) rows
channel_names [] name = refl
channel_names (row ∷ rows) name = ap (λ (b : Bool). bytes_eq row.name name || b) (channel_names rows name)

pub used : (is_used : List ℕ → Bool) (bytes : List ℕ) (x : List ℕ × List ℕ) → name_at bytes ≡ Ok x → is_used x.0 ≡ true → fresh_name_at is_used bytes ≡ Err Order
unfolding fresh_name_at
used is_used bytes x e h = rw (e, h) refl
