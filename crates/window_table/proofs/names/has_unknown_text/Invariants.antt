use Rattle.std.proofs.Common.{◌≡◌, map, drop, is_none}
use Rattle.std.specs.List.{list_any}
use Rattle.module_meaning.specs.TableRules.{end_of}
use Rattle.window_table.specs.Views.{partition_text}
use Rattle.window_table.proofs.names.has_unknown_text.Given as goal

abbrev pub invariant-loop-text : goal.invariant-loop-text
invariant-loop-text l = list_any (λ d. is_none (end_of (map partition_text l.partitions.rows.now) d)) (map (λ d. d.now) l.texts) ≡ list_any (λ d. is_none (end_of (map partition_text l.partitions.rows.now) d)) (map (λ d. d.now) (drop l.text-index l.texts))
