use Rattle.lone_partition.proofs.Prelude.{◌≡◌, ◌≤◌, ◌+◌, Some, None, arith, rules, ended, owner, member_of, around, sent_of, tick_of_input}
use Rattle.lone_partition.proofs.Bursts.{is_within, run_empty, run_fewer, run_piece}
use Rattle.lone_partition.proofs.LinesOfTicks.{from_lower}
use Rattle.lone_partition.proofs.pieces.advance_window.Goals as goal

pub returns-in-None-clause-run : goal.returns-in-None-clause-run
returns-in-None-clause-run g c = λ lines order.
    let s = around c.args.surroundings.now in
    let at = c.args.moment.at in
    let t = at.now.0 in
    let x = member_of g.E.Executor c.args.partition.now c.args.mem.now in
    let n = c.at_most-count.result in
    let few : n ≤ c.args.most = c.at_most-count.ensures.within in
    let over : ended s.schedule at ≡ None = search rules in
    let owns : owner s.schedule at ≡ None = search rules in
    let sent = sent_of g.S.Sink c.args.output.now in
    run_fewer s lines n c.args.most n at x x sent sent few
    (run_empty s lines n at x sent
    (is_within s lines n c.until_change.result at None c.at_most-count.ensures.ticks (from_lower tick_of_input (t + n) (t + c.args.most) lines (omega (arith, few)) order) over c.until_change.ensures.ended owns c.until_change.ensures.owner))

pub returns-in-Some-clause-run : goal.returns-in-Some-clause-run
returns-in-Some-clause-run g c = λ lines order.
    let s = around c.args.surroundings.now in
    let at = c.args.moment.at in
    let t = at.now.0 in
    let x = member_of g.E.Executor c.args.partition.now c.args.mem.now in
    let y = member_of g.E.Executor c.write_piece.new.partition c.write_piece.new.mem in
    let n = c.at_most-count.result in
    let few : n ≤ c.args.most = c.at_most-count.ensures.within in
    let over : ended s.schedule at ≡ None = search rules in
    let owns : owner s.schedule at ≡ Some c.in-Some.field-0.0 = search rules in
    run_fewer s lines n c.args.most c.write_piece.result at x y _ _ few
    (run_piece s lines n c.in-Some.field-0.0 c.write_piece.result at x y _ _
    (is_within s lines n c.until_change.result at (Some c.in-Some.field-0.0) c.at_most-count.ensures.ticks (from_lower tick_of_input (t + n) (t + c.args.most) lines (omega (arith, few)) order) over c.until_change.ensures.ended owns c.until_change.ensures.owner)
    c.write_piece.ensures.within c.write_piece.ensures.written)
