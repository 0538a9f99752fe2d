use Rattle.std.proofs.Common.{◌≡◌, drop, map}
use Rattle.toml.specs.View.{table_view}
use Rattle.module_meaning.specs.TableRules.{integers_at}
use Rattle.window_table.proofs.Reading.{behind}
use Rattle.window_table.proofs.written.read_numbers.Given as goal

abbrev pub invariant-loop-key : goal.invariant-loop-key
invariant-loop-key l = integers_at (map (λ k. k.now) l.keys) (table_view l.table) ≡ behind l.numbers.items (integers_at (map (λ k. k.now) (drop l.key-index l.keys)) (table_view l.table))
