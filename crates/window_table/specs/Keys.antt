-- The keys of a part of a module table.
use Rattle.std.specs.Prelude.{ℕ, Bool, List}
use Rattle.module_meaning.specs.TableRules.{is_table_key, is_partition_key, is_sampling_key, is_queuing_key, is_error_name, is_window_key, is_channel_key, is_cost_key}
use Rattle.window_table.specs.declared.keys.Part.{Part}
use Rattle.window_table.specs.declared.keys.Part.TheVariants as part

abbrev pub is_key : Part → List ℕ → Bool
is_key part.Table = is_table_key
is_key part.Partition = is_partition_key
is_key part.SamplingPort = is_sampling_key
is_key part.QueuingPort = is_queuing_key
is_key part.Health = is_error_name
is_key part.Window = is_window_key
is_key part.Channel = is_channel_key
is_key part.Cost = is_cost_key
