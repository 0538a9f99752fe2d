use Rattle.std.proofs.Common.{◌≡◌, ◌≤◌, List, length, ap, drop, rules}
use Rattle.trace_windows.specs.Counts.{idle_at}
use Rattle.trace_windows.specs.declared.counted.Row.{Row}
use Rattle.trace_windows.proofs.Adding.{all_summed, at_end}
use Rattle.trace_windows.proofs.counted.Counted.idle_ticks.Goals as goal

pub returns : goal.returns
unfolding idle_at
returns c =
    let rows = c.args.self.now.rows.items in
    let over : length rows ≤ c.loop-row.row-index = search rules in
    let none : idle_at c.args.place (drop c.loop-row.row-index rows) ≡ 0 = ap (λ (rs : List Row). idle_at c.args.place rs) (at_end rows c.loop-row.row-index over) in
    all_summed c.loop-row.sum (idle_at c.args.place (drop c.loop-row.row-index rows)) (idle_at c.args.place rows) none c.loop-row.invariant.1 c.loop-row.invariant.0
