use Rattle.std.proofs.Common.{◌≡◌, false, sym, ◌∙◌, arith}
use Rattle.std.proofs.lemmas.Int.{ints, to_z-of_z}
use Rattle.module_meaning.specs.TableRules.{exceeds_counts}
use Rattle.window_table.specs.Views.{table_text}
use Rattle.window_table.proofs.Rules.{frame_kept}
use Rattle.window_table.proofs.read.limited.Goals as goal

pub partition_rows-requires : goal.partition_rows-requires
partition_rows-requires c =
    let counts : exceeds_counts (table_text c.args.written.now) ≡ false = sym c.exceeds_counts.ensures ∙ c.if-exceeds_counts.false in
    let kept = frame_kept (table_text c.args.written.now) counts in
    grind (arith, ints, to_z-of_z)
