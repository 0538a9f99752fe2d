use Rattle.std.proofs.Common.{rules, ◌≡◌, true, ℤ, pos, refl, map, get_or, ap, ◌∙◌, to_z, of_z, w64}
use Rattle.std.specs.List.{list_any}
use Rattle.module_meaning.specs.TableRules.{cost_row, is_outside_cost}
use Rattle.window_table.proofs.Rows.{any_here, still_any, one_more, pushed_row, unless_false, unless_same, unless_true}
use Rattle.window_table.proofs.limits.cost_rows.Goals as goal

pub loop-number-preserved : goal.loop-number-preserved
loop-number-preserved c =
    let number : ℤ = get_or c.args.numbers.now c.loop-number.number-index (pos 0) in
    let read : number ≡ to_z w64 (of_z w64 number) = search rules in
    record {
      within = still_any is_outside_cost (list_any is_outside_cost) c.args.numbers.now c.loop-number.number-index _ _ (λ x ys. refl) c.loop-number-test.true
          (ap is_outside_cost read ∙ unless_false _ _ _ _ c.cost_row.ensures c.in_ok-row.ensures.ok_part) c.loop-number.invariant.within;
      built = one_more cost_row (map cost_row) c.args.numbers.now c.loop-number.number-index _ c.loop-number.rows.items _ _ (λ x ys. refl) c.loop-number-test.true
          (pushed_row c.push.result _ c.loop-number.rows.items _ _ c.if-is_err.ensures.value c.push.ensures.items
          (ap cost_row read ∙ unless_same _ _ _ _ c.cost_row.ensures c.in_ok-row.ensures.ok_part))
          c.loop-number.invariant.built;
    }

pub returns-in_err-row : goal.returns-in_err-row
returns-in_err-row c =
    let number : ℤ = get_or c.args.numbers.now c.loop-number.number-index (pos 0) in
    let read : number ≡ to_z w64 (of_z w64 number) = search rules in
    let outside : list_any is_outside_cost c.args.numbers.now ≡ true =
    any_here is_outside_cost (list_any is_outside_cost) c.args.numbers.now c.loop-number.number-index _ _ (λ x ys. refl) c.loop-number-test.true
    (ap is_outside_cost read ∙ unless_true _ _ _ c.cost_row.ensures c.in_err-row.ensures.ok_part) c.loop-number.invariant.within in
    search rules
