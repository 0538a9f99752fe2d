use Rattle.std.proofs.Common.{◌≡◌}
use Rattle.toml.specs.View.{table_view, members_view}
use Rattle.module_meaning.specs.TableRules.{has_only}
use Rattle.window_table.specs.Keys.{is_key}
use Rattle.window_table.proofs.members.has_only.Given as goal

abbrev pub invariant-loop-key : goal.invariant-loop-key
invariant-loop-key l =
    (goal.iterator-loop-key).can_next l.key-iterator ×
    (goal.iterator-loop-key).is_finite l.key-iterator ×
    (has_only (is_key l.part) (table_view l.fn.table) ≡ has_only (is_key l.part) (members_view l.key-iterator))
