use Rattle.std.proofs.Common.{◌≡◌}
use Rattle.toml.specs.View.{table_view, members_view}
use Rattle.module_meaning.specs.TableRules.{has_texts_only}
use Rattle.window_table.proofs.members.has_texts_only.Given as goal

abbrev pub invariant-loop-value : goal.invariant-loop-value
invariant-loop-value l =
    (goal.iterator-loop-value).can_next l.value-iterator ×
    (goal.iterator-loop-value).is_finite l.value-iterator ×
    (has_texts_only (table_view l.fn.table) ≡ has_texts_only (members_view l.value-iterator))
