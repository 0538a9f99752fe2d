use Rattle.lone_partition.proofs.Prelude.{◌≤◌, ◌<◌, ◌+◌, subst, arith, Kernel, IsStill, member_of, around, sent_of, tick_of_input}
use Rattle.lone_partition.proofs.Bursts.{run_fewer, run_still}
use Rattle.lone_partition.proofs.LinesOfTicks.{from_lower}
use Rattle.lone_partition.proofs.pieces.advance.Goals as goal

pub returns-then-still-gt0-clause-order : goal.returns-then-still-gt0-clause-order
returns-then-still-gt0-clause-order g c =
    let t = c.args.moment.at.now.0 in
    from_lower tick_of_input (t + c.still_ticks-still.result) (t + c.until_line-quiet.result) c.args.lines.now (omega (arith, c.still_ticks-still.ensures.within)) c.until_line-quiet.ensures.from

pub returns-then-still-gt0-clause-run : goal.returns-then-still-gt0-clause-run
returns-then-still-gt0-clause-run g c =
    let s = around c.args.surroundings.now in
    let at = c.args.moment.at in
    let t = at.now.0 in
    let lines = c.args.lines.now in
    let x = member_of g.E.Executor c.args.partition.now c.args.mem.now in
    let n = c.still_ticks-still.result in
    let sent = sent_of g.S.Sink c.args.output.now in
    let some : 0 < n = omega (arith, c.if-still-gt0.true) in
    let few : n ≤ c.args.most = omega (arith, c.still_ticks-still.ensures.within, c.until_line-quiet.ensures.within) in
    let still : IsStill at.origin.0 t (t + n) c.args.partition.now.kernel = subst (λ (k : Kernel). IsStill at.origin.0 t (t + n) k) c.kernel.ensures (c.still_ticks-still.ensures.still some) in
    run_fewer s lines n c.args.most n at x x sent sent few
    (run_still s lines n at x sent
    (from_lower tick_of_input (t + n) (t + c.until_line-quiet.result) lines (omega (arith, c.still_ticks-still.ensures.within)) c.until_line-quiet.ensures.from) still)

pub returns-clause-order : goal.returns-clause-order
returns-clause-order g c =
    let t = c.args.moment.at.now.0 in
    let ran = c.advance_window.ensures.run c.args.lines.now c.until_line-quiet.ensures.from in
    let within : c.advance_window.result ≤ c.until_line-quiet.result = ran.0 in
    from_lower tick_of_input (t + c.advance_window.result) (t + c.until_line-quiet.result) c.args.lines.now (omega (arith, within)) c.until_line-quiet.ensures.from

pub returns-clause-run : goal.returns-clause-run
returns-clause-run g c =
    run_fewer (around c.args.surroundings.now) c.args.lines.now c.until_line-quiet.result c.args.most c.advance_window.result c.args.moment.at (member_of g.E.Executor c.args.partition.now c.args.mem.now) (member_of g.E.Executor c.advance_window.new.partition c.advance_window.new.mem) _ _ c.until_line-quiet.ensures.within
    (c.advance_window.ensures.run c.args.lines.now c.until_line-quiet.ensures.from)
