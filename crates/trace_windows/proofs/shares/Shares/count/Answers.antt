use Rattle.std.proofs.Common.{ap, ◌∙◌, arith}
use Rattle.trace_windows.specs.Counts.{ticks_for}
use Rattle.trace_windows.specs.Standings.{standing_of}
use Rattle.trace_windows.specs.Uses.{use_at}
use Rattle.trace_windows.specs.declared.shares.Shares.{Shares}
use Rattle.trace_windows.proofs.Stretches.{adds_same, next_stretch}
use Rattle.trace_windows.proofs.Totals.{total_next}
use Rattle.window_table.specs.Schedules.{schedule_of}
use Rattle.trace_windows.proofs.shares.Shares.count.Goals as goal

pub loop-now-preserved : goal.loop-now-preserved
loop-now-preserved c =
    let old = c.args.self.now in
    let mid = c.loop-now.self in
    let new = c.count_stretch.new.self in
    let t = c.in_ok-now.now in
    record {
      past = omega (arith, c.loop-now.invariant.past, c.in_ok-now.ensures.ahead);
      before = omega (arith, c.in_ok-now.ensures.before);
      others = c.in_ok-now.ensures.others ∙ ap (λ (s : Shares). record s { counted = new.counted }) c.loop-now.invariant.others;
      counted = λ u. next_stretch (use_at (schedule_of old.schedule) (standing_of old)) u c.args.times c.args.from c.loop-now.now t
          (ticks_for u old.counted.rows.items) (ticks_for u mid.counted.rows.items) (ticks_for u new.counted.rows.items)
          c.loop-now.invariant.past (omega (arith, c.in_ok-now.ensures.ahead)) (c.loop-now.invariant.counted u)
          (adds_same old mid c.args.times c.loop-now.now t mid.counted.rows.items new.counted.rows.items c.loop-now.invariant.others c.in_ok-now.ensures.counted u);
      total = total_next c.args.times c.args.from c.loop-now.now t old.counted.rows.items mid.counted.rows.items new.counted.rows.items
          c.loop-now.invariant.past (omega (arith, c.in_ok-now.ensures.ahead)) c.loop-now.invariant.total c.in_ok-now.ensures.total;
    }
