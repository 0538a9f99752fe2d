-- The rows of a table, as the definitions see them.
use Rattle.std.proofs.Common.{◌≡◌, ℕ, List, map, option_map}
use Rattle.std.specs.Prelude.{slice_get}
use Rattle.std.proofs.lemmas.Option.{slice_get-map}
use Rattle.window_table.specs.Views.{partition_view}
use Rattle.window_table.specs.declared.table.PartitionRow.{PartitionRow}

pub row_at : (rows : List PartitionRow) (i : ℕ) → slice_get (map partition_view rows) i ≡ option_map partition_view (slice_get rows i)
row_at rows i = slice_get-map partition_view rows i
