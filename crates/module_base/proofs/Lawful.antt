-- The facts that the type of an image gives about its numbers and its partitions' rows.
use Rattle.module_base.proofs.Prelude.{◌≡◌, ℕ, suc, ℤ, ◌<◌, ◌≤◌, Bool, true, false, cond, List, ◌∷◌, ◌++◌, length, map, Option, Some, ◌∙◌, arith, option_map, lt-leb, ArrayVec, place_of_number, PortRow, MOST_WORDS, row_of_item, words_of_port, Partition, at_number, message, items_of, partition_of, channel_of, fitting, rows_in}
use Rattle.std.proofs.Common.{zero, [], get_or, refl, sym, ap}
use Rattle.std.specs.Prelude.{slice_get, nat_le}
use Rattle.std.proofs.lemmas.Bool.{leb-false}
use Rattle.std.proofs.lemmas.List.{length-map}
use Rattle.std.proofs.lemmas.Option.{none-some, same_Some, slice_get_read, slice_get_past}
use Rattle.apex_types.specs.Versions.{third_limits}
use Rattle.apex_types.specs.declared.identity.PartitionId.{PartitionId}
use Rattle.apex_types.specs.declared.identity.PortId.{PortId}
use Rattle.apex_types.specs.declared.row.ChannelEnd.{ChannelEnd}
use Rattle.apex_types.specs.declared.row.ChannelEnd.TheVariants.{Device, Port}
use Rattle.apex_types.specs.declared.limits.TheConstants.{MOST_CHANNELS, MOST_PARTITIONS}
use Rattle.module_meaning.specs.DeviceText.{words_of_partition, words_of_end, words_of_ends}
use Rattle.machine_meaning.specs.Image as meant
use Rattle.machine_meaning.specs.Image.{Item}
use Rattle.machine_meaning.specs.ImageLimits.{EachBeside, IsPort, IsItem}
use Rattle.image.specs.Items.{item_of}
use Rattle.image.specs.Views.{image_of}
use Rattle.image.specs.declared.item.PartitionItem.{PartitionItem}
use Rattle.image.specs.declared.value.Image.{Image}
use Rattle.module_base.specs.declared.line.MessageWords.TheVariants as held
use Rattle.machine_laws.proofs.Widened.{items_widened, count_widened}

pub few_channels : (image : Image) → length image.channels.items ≤ MOST_CHANNELS
few_channels image = let same = length-map image.channels.items channel_of in let most = image.lawful.limits.channel_count.most in omega arith

pub few_partitions : (image : Image) → length image.partitions.items ≤ MOST_PARTITIONS
few_partitions image = let same = length-map image.partitions.items item_of in let most = (count_widened (image_of image) image.lawful.limits).most in omega arith

-- at the place that a number gives
pub from_place : {A : Type 0} (xs : List A) (n place : ℕ) → place_of_number n ≡ Some place → at_number xs n ≡ slice_get xs place
from_place xs zero place h = absurd (none-some place h)
from_place xs (suc n) place h = ap (slice_get xs) (same_Some n place h)

pub rows_get : (items : List PartitionItem) (n : ℕ) → slice_get (map row_of_item (items_of items)) n ≡ option_map (λ it. partition_of it.row) (slice_get items n)
rows_get [] n = refl
rows_get (it ∷ items) zero = refl
rows_get (it ∷ items) (suc n) = rows_get items n

pub words_at : (image : Image) (e : ChannelEnd) (p : PartitionId) (q : PortId) (items : List PartitionItem) (it : PartitionItem) (i place : ℕ) → e ≡ Port p q → place_of_number p.0 ≡ Some place → i ≡ place → items ≡ image.partitions.items → i < length items → it ≡ get_or items i it → words_of_end (rows_in image) e ≡ words_of_port (at_number it.row.ports.items q.0)
words_at image e p q items it i place is known at same within read =
    let found : slice_get items i ≡ Some it = slice_get_read items (length items) i it refl within read in
    ap (words_of_end (rows_in image)) is
    ∙ ap (λ (o : Option Partition). words_of_partition o q.0) (from_place (rows_in image) p.0 place known
    ∙ ap (slice_get (rows_in image)) (sym at)
    ∙ ap (λ (its : List PartitionItem). slice_get (map row_of_item (items_of its)) i) (sym same)
    ∙ rows_get items i
    ∙ ap (option_map (λ (x : PartitionItem). partition_of x.row)) found)

pub words_past : (image : Image) (e : ChannelEnd) (p : PartitionId) (q : PortId) (items : List PartitionItem) (i place : ℕ) → e ≡ Port p q → place_of_number p.0 ≡ Some place → i ≡ place → items ≡ image.partitions.items → length items ≤ i → 0 ≡ words_of_end (rows_in image) e
words_past image e p q items i place is known at same past =
    sym (ap (words_of_end (rows_in image)) is
    ∙ ap (λ (o : Option Partition). words_of_partition o q.0) (from_place (rows_in image) p.0 place known
    ∙ ap (slice_get (rows_in image)) (sym at)
    ∙ ap (λ (its : List PartitionItem). slice_get (map row_of_item (items_of its)) i) (sym same)
    ∙ rows_get items i
    ∙ ap (option_map (λ (x : PartitionItem). partition_of x.row)) (slice_get_past items i past)))

-- no port takes more words than a message has

words_of_each : (before ports : List PortRow) (n : ℕ) → EachBeside (IsPort third_limits) before ports → words_of_port (slice_get ports n) ≤ MOST_WORDS
words_of_each before [] n h = omega arith
words_of_each before (p ∷ ports) zero h = h.0.words.most
words_of_each before (p ∷ ports) (suc n) h = words_of_each (before ++ p ∷ []) ports n h.1

words_of_numbered : (ports : List PortRow) (n : ℕ) → EachBeside (IsPort third_limits) [] ports → words_of_port (at_number ports n) ≤ MOST_WORDS
words_of_numbered ports zero h = omega arith
words_of_numbered ports (suc n) h = words_of_each [] ports n h

words_of_item : (frame : ℕ) (before items : List Item) (n port : ℕ) → EachBeside (IsItem third_limits frame) before items → words_of_partition (slice_get (map row_of_item items) n) port ≤ MOST_WORDS
words_of_item frame before [] n port h = omega arith
words_of_item frame before (it ∷ items) zero port h = words_of_numbered it.partition.ports port h.0.partition.ports
words_of_item frame before (it ∷ items) (suc n) port h = words_of_item frame (before ++ it ∷ []) items n port h.1

words_of_row : (image : Image) (n port : ℕ) → words_of_partition (at_number (rows_in image) n) port ≤ MOST_WORDS
words_of_row image zero port = omega arith
words_of_row image (suc n) port = words_of_item image.schedule.frame [] (items_of image.partitions.items) n port (items_widened (image_of image) image.lawful.limits)

few_words : (image : Image) (ends : List ChannelEnd) → words_of_ends (rows_in image) ends ≤ MOST_WORDS
few_words image [] = omega arith
few_words image (Device ∷ ends) = omega arith
few_words image (Port p q ∷ ends) = words_of_row image p.0 q.0

cut : (b : Bool) (m : ArrayVec ℤ) → held.TooMany ≡ cond b (held.Few m) held.TooMany → b ≡ false
cut true m e = cc
cut false m e = refl

-- more words than a message has are too many for each channel
pub long_message : (image : Image) (ends : List ChannelEnd) (ws : List ℤ) → held.TooMany ≡ fitting ws → nat_le (length ws) (words_of_ends (rows_in image) ends) ≡ false
long_message image ends ws e =
    lt-leb (length ws) (words_of_ends (rows_in image) ends) (omega (arith, few_words image ends, leb-false (length ws) MOST_WORDS (cut (nat_le (length ws) MOST_WORDS) (message ws) e)))

-- so are they for a port of at most 16
pub long_arrival : (most : ℕ) (ws : List ℤ) → most ≤ MOST_WORDS → held.TooMany ≡ fitting ws → nat_le (length ws) most ≡ false
long_arrival most ws few e = lt-leb (length ws) most (omega (arith, few, leb-false (length ws) MOST_WORDS (cut (nat_le (length ws) MOST_WORDS) (message ws) e)))
