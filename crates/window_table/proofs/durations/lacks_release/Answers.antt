use Rattle.std.proofs.Common.{◌∙◌, ◌+◌, not, map, ap, refl, sym, arith}
use Rattle.kernel_meaning.specs.Windows.{has_release}
use Rattle.module_meaning.specs.Table.{lacks_release_from}
use Rattle.window_table.proofs.Rows.{none_left, still_any_then}
use Rattle.window_table.proofs.durations.lacks_release.Goals as goal

pub loop-preserved : goal.loop-preserved
unfolding lacks_release_from
loop-preserved g c =
    let row = g.P.HasRow.row_of in
    let windows = c.args.windows.now in
    let n = c.loop.number in
    record {
      counted = omega (arith, c.loop.invariant.counted);
      left = still_any_then (λ _. not (has_release windows n)) (λ ps. lacks_release_from n windows (map row ps)) (λ ps. lacks_release_from (n + 1) windows (map row ps)) c.args.partitions.rows.now c.loop.index
          c.loop-item.result _ (λ _ _. refl) c.loop-test.true c.loop-item.is (ap not (sym c.has_release.ensures ∙ c.if-not-has_release.false)) c.loop.invariant.left;
    }

pub returns : goal.returns
unfolding lacks_release_from
returns g c = sym (none_left (λ ps. lacks_release_from c.loop.number c.args.windows.now (map g.P.HasRow.row_of ps)) c.args.partitions.rows.now c.loop.index _ refl c.loop-test.false c.loop.invariant.left)
