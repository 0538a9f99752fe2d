-- The bounds of an image's partitions, so that their processors and kernels have room for them.
use Rattle.std.specs.Prelude.{◌≡◌, ℕ, List, Some, slice_get}
use Rattle.image.specs.declared.item.PartitionItem.{PartitionItem}
use Rattle.partition.specs.Fresh.{AreWithinLimits}
use Rattle.partition_base.specs.Sections.{IsFittingSection, fresh_memory}
use Rattle.regions.specs.Space.{Space}

-- its processor has room for its section, and its kernel for its rows
pub record IsFittingItem (item : PartitionItem) : Type 0 where
  pub section : IsFittingSection item.section
  pub rows : AreWithinLimits item.row.ports.items item.section

abbrev pub AreFittingItems : List PartitionItem → Type 0
AreFittingItems items = (place : ℕ) (item : PartitionItem) → slice_get items place ≡ Some item → IsFittingItem item

-- the memory of a partition before its first start
abbrev pub fresh_item : PartitionItem → Space
fresh_item item = fresh_memory item.section
