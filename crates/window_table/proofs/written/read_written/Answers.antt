use Rattle.std.proofs.Common.{rules, Vec, Global, false, ◌≡◌, None, ap, sym, map, option_map, ◌∙◌}
use Rattle.std.proofs.lemmas.Result.{err_from_is_err_and}
use Rattle.std.specs.Prelude.{codes}
use Rattle.toml.specs.View.{table_view, items_view}
use Rattle.module_meaning.specs.Table.{◌>>=◌}
use Rattle.module_meaning.specs.TableRules.{array_at, channel_of, has_only, is_table_key, optional_array_at, partition_of, table_text_of, tables_of, window_of}
use Rattle.window_table.specs.declared.written.WrittenPartition.{WrittenPartition}
use Rattle.window_table.specs.declared.written.WrittenWindow.{WrittenWindow}
use Rattle.window_table.specs.declared.written.WrittenChannel.{WrittenChannel}
use Rattle.window_table.specs.Views.{channel_text, partition_text, table_text, window_text}
use Rattle.window_table.proofs.Whole.{none_first, no_channels, no_partitions, no_windows, other_keys, part_fault}
use Rattle.window_table.proofs.written.read_written.Goals as goal

pub returns-in_err-partitions : goal.returns-in_err-partitions
returns-in_err-partitions c =
    let ms = table_view c.args.table.now in
    let none : table_text_of ms ≡ None =
    no_partitions ms (none_first (array_at (codes "partition") ms) (tables_of partition_of) (sym c.array.ensures
    ∙ ap (option_map (λ vs. items_view vs.now)) c.in_err-partitions.ensures.ok_part)) in
    search rules

pub returns-in_err-windows : goal.returns-in_err-windows
returns-in_err-windows c =
    let ms = table_view c.args.table.now in
    let none : table_text_of ms ≡ None =
    no_windows ms (none_first (array_at (codes "window") ms) (tables_of window_of) (sym c.array-2.ensures
    ∙ ap (option_map (λ vs. items_view vs.now)) c.in_err-windows.ensures.ok_part)) in
    search rules

pub returns-in_err-channels : goal.returns-in_err-channels
returns-in_err-channels c =
    let ms = table_view c.args.table.now in
    let none : table_text_of ms ≡ None =
    no_channels ms (none_first (optional_array_at (codes "channel") ms) (tables_of channel_of) (sym c.optional_array.ensures
    ∙ ap (option_map (λ vs. items_view vs.now)) c.in_err-channels.ensures.ok_part)) in
    search rules

pub returns-in_err-read_partitions : goal.returns-in_err-read_partitions
returns-in_err-read_partitions c =
    let ms = table_view c.args.table.now in
    let p = err_from_is_err_and c.from_residual-in_err-read_partitions.result c.from_residual-in_err-read_partitions.ensures.1 in
    rw (p.1, p.2) (part_fault (λ (v : Vec WrittenPartition Global). map partition_text v.items) table_text c.in_err-read_partitions.field-0.0 _ (table_text_of ms)
    c.in_err-read_partitions.ensures (λ none.
    no_partitions ms (ap (λ o. o >>= tables_of partition_of) (sym c.array.ensures ∙ ap (option_map (λ vs. items_view vs.now)) c.in_ok-partitions.ensures.ok_part) ∙ none)))

pub returns-in_err-read_windows : goal.returns-in_err-read_windows
returns-in_err-read_windows c =
    let ms = table_view c.args.table.now in
    let p = err_from_is_err_and c.from_residual-in_err-read_windows.result c.from_residual-in_err-read_windows.ensures.1 in
    rw (p.1, p.2) (part_fault (λ (v : Vec WrittenWindow Global). map window_text v.items) table_text c.in_err-read_windows.field-0.0 _ (table_text_of ms)
    c.in_err-read_windows.ensures (λ none.
    no_windows ms (ap (λ o. o >>= tables_of window_of) (sym c.array-2.ensures ∙ ap (option_map (λ vs. items_view vs.now)) c.in_ok-windows.ensures.ok_part) ∙ none)))

pub returns-in_err-read_channels : goal.returns-in_err-read_channels
returns-in_err-read_channels c =
    let ms = table_view c.args.table.now in
    let p = err_from_is_err_and c.from_residual-in_err-read_channels.result c.from_residual-in_err-read_channels.ensures.1 in
    rw (p.1, p.2) (part_fault (λ (v : Vec WrittenChannel Global). map channel_text v.items) table_text c.in_err-read_channels.field-0.0 _ (table_text_of ms)
    c.in_err-read_channels.ensures (λ none.
    no_channels ms (ap (λ o. o >>= tables_of channel_of) (sym c.optional_array.ensures ∙ ap (option_map (λ vs. items_view vs.now)) c.in_ok-channels.ensures.ok_part) ∙ none)))

pub returns-then-not-has_only : goal.returns-then-not-has_only
returns-then-not-has_only c =
    let ms = table_view c.args.table.now in
    let others : has_only is_table_key ms ≡ false = search rules in
    let none : table_text_of ms ≡ None = other_keys ms others in
    search rules
