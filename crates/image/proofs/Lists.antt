-- Lists of values are spelled as their views are, and what is appended in parts is appended whole.
use Rattle.std.proofs.Common.{◌≡◌, ℕ, List, ◌++◌, refl, append_assoc}
use Rattle.std.proofs.lemmas.List.{length-map}
use Rattle.std.proofs.lemmas.List.Folds.{flat_map-map}
use Rattle.window_table.specs.declared.table.ChannelRow.{ChannelRow}
use Rattle.image.specs.declared.item.PartitionItem.{PartitionItem}
use Rattle.machine_meaning.specs.ImageSpelling.{list, item, channel}
use Rattle.image.specs.Items.{item_of, items_of, channel_of, channels_of}

pub items_spelled : (its : List PartitionItem) → list item (items_of its) ≡ list (λ it. item (item_of it)) its
unfolding list
items_spelled its = rw (length-map its item_of, flat_map-map item item_of its) refl

pub channels_spelled : (rows : List ChannelRow) → list channel (channels_of rows) ≡ list (λ row. channel (channel_of row)) rows
unfolding list
channels_spelled rows = rw (length-map rows channel_of, flat_map-map channel channel_of rows) refl

pub three : (out a b c x y z : List ℕ) → x ≡ out ++ a → y ≡ x ++ b → z ≡ y ++ c → z ≡ out ++ (a ++ b ++ c)
three out a b c x y z p q r = rw (r, q, p) (simp append_assoc)

pub four : (out a b c d w x y z : List ℕ) → w ≡ out ++ a → x ≡ w ++ b → y ≡ x ++ c → z ≡ y ++ d → z ≡ out ++ (a ++ b ++ c ++ d)
four out a b c d w x y z p q r s = rw (s, r, q, p) (simp append_assoc)
