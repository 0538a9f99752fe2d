use Rattle.std.proofs.Common.{◌≡◌, ◌+◌, ◌/◌, ◌*◌, ◌-◌, arith}
use Rattle.std.proofs.lemmas.Result.{on_ok_weaker}
use Rattle.std.proofs.Math.Nat.{div-mul-le_self}
use Rattle.trace_windows.specs.Standings.{standing_of}
use Rattle.trace_windows.proofs.Stretches.{adds_same, frames_none, frames_whole}
use Rattle.trace_windows.proofs.Totals.{total_frames, total_rest}
use Rattle.window_table.specs.Schedules.{schedule_of}
use Rattle.trace_windows.proofs.shares.Shares.count_frames.Goals as goal
use Rattle.trace_windows.proofs.shares.Shares.count_frames.Goals.{then-frames-gt0+in_ok-count, else-frames-gt0}

pub returns-clause-counted : goal.returns-clause-counted
returns-clause-counted c =
    let old = c.args.self.now in
    let mid = c.if-frames-gt0.self in
    let new = c.count-2.new.self.counted.rows.items in
    let schedule = schedule_of old.schedule in
    let s = standing_of old in
    let from = c.args.from in
    let until = c.args.until in
    let frame = c.from-frame.result in
    let k = (until - from) / frame in
    on_ok_weaker c.count-2.result
    (λ rest. elim c.if-frames-gt0.branch [
      | then-frames-gt0+in_ok-count w ↦
          let others : mid ≡ record old { counted = mid.counted } = rw w.self-is w.in_ok-count.ensures.others in
          frames_whole schedule s from until k frame old.counted.rows.items mid.counted.rows.items new c.from-frame.ensures c.requires.past (div-mul-le_self (until - from) frame)
          (rw w.self-is w.in_ok-count.ensures.counted) (adds_same old mid 1 (from + k * frame) until mid.counted.rows.items new others rest)
      | else-frames-gt0 w ↦
          frames_none schedule s from until k frame old.counted.rows.items new c.from-frame.ensures c.requires.past (omega (arith, w.if-frames-gt0.false)) (rw w.self-is at rest)
    ]) c.count-2.ensures.counted

pub returns-clause-total : goal.returns-clause-total
returns-clause-total c =
    let old = c.args.self.now in
    let mid = c.if-frames-gt0.self in
    let new = c.count-2.new.self.counted.rows.items in
    let from = c.args.from in
    let until = c.args.until in
    let frame = c.from-frame.result in
    let k = (until - from) / frame in
    on_ok_weaker c.count-2.result
    (λ rest. elim c.if-frames-gt0.branch [
      | then-frames-gt0+in_ok-count w ↦
          total_frames from until k frame old.counted.rows.items mid.counted.rows.items new (div-mul-le_self (until - from) frame) (rw w.self-is w.in_ok-count.ensures.total) rest
      | else-frames-gt0 w ↦ total_rest from until k frame old.counted.rows.items new (omega (arith, w.if-frames-gt0.false)) (rw w.self-is at rest)
    ]) c.count-2.ensures.total
