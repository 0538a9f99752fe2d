use Rattle.std.proofs.Common.{rules, ◌≡◌, pos, refl, map, ap, ◌∙◌, ◌+◌, get_or, drop}
use Rattle.std.specs.List.{list_any}
use Rattle.std.specs.Prelude.{option_map, true}
use Rattle.std.proofs.lemmas.List.{at_drop_more}
use Rattle.module_meaning.specs.TableRules.{exceeds_window, is_unknown_window, overlaps_after, window_row}
use Rattle.window_table.specs.Views.{partition_text, window_text}
use Rattle.window_table.proofs.Rows.{none_behind, none_here, is_there, one_more, pushed_row, next_window, overlap_here, placed, unless_false, unless_same, unless_true}
use Rattle.window_table.proofs.numbered.window_rows.Goals as goal

pub loop-window-preserved : goal.loop-window-preserved
loop-window-preserved c =
    let ps = map partition_text c.args.partitions.rows.now in
    let ws = c.args.windows.now in
    let i = c.loop-window.window-index in
    record {
      numbers = none_behind (λ w. exceeds_window (window_text w)) (λ us. list_any exceeds_window (map window_text us)) ws i (λ x ys. refl) c.loop-window-test.true c.loop-window.invariant.numbers;
      known = none_behind (λ w. is_unknown_window ps (window_text w)) (λ us. list_any (is_unknown_window ps) (map window_text us)) ws i (λ x ys. refl) c.loop-window-test.true
          c.loop-window.invariant.known;
      left = c.loop-window.invariant.left
          ∙ at_drop_more (λ us. overlaps_after (pos c.args.frame) (pos c.loop-window.end) (map window_text us)) ws i _ c.loop-window-test.true
          ∙ next_window (pos c.args.frame) (pos c.loop-window.end) (pos c.in_ok-end.end) _ (map window_text (drop (i + 1) ws))
          (unless_false _ _ _ (pos c.in_ok-end.end) c.window_end.ensures (ap (option_map pos) c.in_ok-end.ensures.ok_part))
          (unless_same _ _ _ (pos c.in_ok-end.end) c.window_end.ensures (ap (option_map pos) c.in_ok-end.ensures.ok_part));
      built = one_more (λ w. window_row ps (window_text w)) (λ us. map (window_row ps) (map window_text us)) ws i _ c.loop-window.rows.items _ _ (λ x ys. refl) c.loop-window-test.true
          (pushed_row c.push.result _ c.loop-window.rows.items c.placed_row.result _ c.if-is_err.ensures.value c.push.ensures.items
          (placed ps (window_text (get_or ws i _)) c.placed_row.result c.partition_number.result c.in_ok-partition.partition c.partition_number.ensures c.in_ok-partition.ensures.ok_part c.placed_row.ensures))
          c.loop-window.invariant.built;
    }

pub returns-in_err-partition : goal.returns-in_err-partition
returns-in_err-partition c =
    let ps = map partition_text c.args.partitions.rows.now in
    absurd (is_there _ _ c.partition_number.ensures (ap (option_map (λ n. n.0)) c.in_err-partition.ensures.ok_part)
    (none_here (λ w. is_unknown_window ps (window_text w)) (λ us. list_any (is_unknown_window ps) (map window_text us)) c.args.windows.now c.loop-window.window-index _ (λ x ys. refl)
    c.loop-window-test.true c.loop-window.invariant.known))

pub returns-in_err-end : goal.returns-in_err-end
returns-in_err-end c =
    let ws = c.args.windows.now in
    let i = c.loop-window.window-index in
    let overlaps : overlaps_after (pos c.args.frame) (pos 0) (map window_text ws) ≡ true =
    c.loop-window.invariant.left
    ∙ at_drop_more (λ us. overlaps_after (pos c.args.frame) (pos c.loop-window.end) (map window_text us)) ws i _ c.loop-window-test.true
    ∙ overlap_here (pos c.args.frame) (pos c.loop-window.end) _ (map window_text (drop (i + 1) ws))
    (unless_true _ _ _ c.window_end.ensures (ap (option_map pos) c.in_err-end.ensures.ok_part)) in
    search rules

pub window_end-requires : goal.window_end-requires
window_end-requires c =
    none_here (λ w. exceeds_window (window_text w)) (λ us. list_any exceeds_window (map window_text us)) c.args.windows.now c.loop-window.window-index _ (λ x ys. refl) c.loop-window-test.true
    c.loop-window.invariant.numbers

pub placed_row-requires : goal.placed_row-requires
placed_row-requires c = record {
  numbers = none_here (λ w. exceeds_window (window_text w)) (λ us. list_any exceeds_window (map window_text us)) c.args.windows.now c.loop-window.window-index _ (λ x ys. refl)
      c.loop-window-test.true c.loop-window.invariant.numbers;
  within = unless_same _ _ _ (pos c.in_ok-end.end) c.window_end.ensures (ap (option_map pos) c.in_ok-end.ensures.ok_part);
}
