use Rattle.lone_partition.proofs.Prelude.{rules, ◌≡◌, ℕ, suc, ◌+◌, ◌-◌, true, Some, None, sym, ap, subst, ◌∙◌, arith, text_of, At, first_tick, next_tick, at_tick, alone_from, IsNow, member_of, around, AreFrom, inputs_of, tick_of_input, next_at, sent_of}
use Rattle.lone_partition.proofs.Bursts.{none_made, runs_on}
use Rattle.lone_partition.proofs.Outputs.{CompletesLines, all_lines_left, failed_sent}
use Rattle.lone_partition.proofs.Traces.{goes_on, ends_down, nothing_left, tick_in}
use Rattle.lone_partition.proofs.running.run_ticks.Goals as goal

pub loop-left-init : goal.loop-left-init
loop-left-init g c =
    let sent = sent_of g.S.Sink c.args.output.now in
    let s = around c.args.surroundings.now in
    let x = member_of g.E.Executor c.args.partition.now c.args.mem.now in
    let whole = alone_from s c.args.inputs.now c.args.ticks (Some first_tick) x in
    let first = sym c.first-moment.ensures in
    let now : c.first-moment.result.at.now.0 ≡ 0 = ap (λ (a : At). a.now.0) c.first-moment.ensures in
    record {
      fits = c.requires.fits;
      limit = omega (arith, now);
      order = subst (λ (a : At). AreFrom tick_of_input a.now.0 c.args.inputs.now) first c.requires.order;
      rest = subst (λ (a : At). CompletesLines whole (alone_from s c.args.inputs.now c.args.ticks (Some a) x) sent sent) first (all_lines_left whole sent);
    }

-- many ticks together
pub loop-left-preserved-then-count-gt0 : goal.loop-left-preserved-then-count-gt0
loop-left-preserved-then-count-gt0 g c =
    let i = c.loop-left.invariant in
    let s = around c.args.surroundings.now in
    let at = c.loop-left.moment.at in
    let n = c.advance-count.result in
    let left = c.loop-left.left in
    let rest = left - c.from-left.result in
    let x = member_of g.E.Executor c.loop-left.partition c.loop-left.mem in
    let y = member_of g.E.Executor c.advance-count.new.partition c.advance-count.new.mem in
    let old = sent_of g.S.Sink c.args.output.now in
    let mid = sent_of g.S.Sink c.loop-left.output in
    let new = sent_of g.S.Sink c.advance-count.new.output in
    let whole = alone_from s c.args.inputs.now c.args.ticks (Some first_tick) (member_of g.E.Executor c.args.partition.now c.args.mem.now) in
    let ran = c.advance-count.ensures.run in
    let same : left ≡ n + rest = omega (arith, ran.0, c.at_once-most.ensures, c.from-left.ensures) in
    let next : c.later-moment.result.at ≡ at_tick at (at.now.0 + n) = c.later-moment.ensures in
    let later : c.later-moment.result.at.now.0 ≡ at.now.0 + n = ap (λ (a : At). a.now.0) next in
    record {
      fits = c.advance-count.ensures.fits;
      limit = omega (arith, later, i.limit, same);
      order = subst (λ (t : ℕ). AreFrom tick_of_input t c.loop-left.lines.now) (sym later) c.advance-count.ensures.order;
      rest = subst (λ (a : At). CompletesLines whole (alone_from s c.loop-left.lines.now rest (Some a) y) old new) (sym next)
          (runs_on s c.loop-left.lines.now whole left n rest at x y old mid new same i.rest ran.1);
    }

-- a single tick
pub loop-left-preserved : goal.loop-left-preserved
loop-left-preserved g c =
    let i = c.loop-left.invariant in
    let s = around c.args.surroundings.now in
    let at = c.loop-left.moment.at in
    let lines = c.loop-left.lines.now in
    let own = c.split_tick.result.0.now in
    let left = c.loop-left.left in
    let last = c.in-Some.last.at in
    let x = member_of g.E.Executor c.advance-count.new.partition c.advance-count.new.mem in
    let y = member_of g.E.Executor c.tick.new.partition c.tick.new.mem in
    let old = sent_of g.S.Sink c.args.output.now in
    let mid = sent_of g.S.Sink c.advance-count.new.output in
    let new = sent_of g.S.Sink c.tick.new.output in
    let whole = alone_from s c.args.inputs.now c.args.ticks (Some first_tick) (member_of g.E.Executor c.args.partition.now c.args.mem.now) in
    let none : c.advance-count.result ≡ 0 = omega (arith, c.if-count-gt0.false) in
    let way = none_made s lines whole left c.advance-count.result at (member_of g.E.Executor c.loop-left.partition c.loop-left.mem) x old (sent_of g.S.Sink c.loop-left.output) mid none i.rest c.advance-count.ensures.run.1 in
    let split = c.split_tick.ensures in
    let one : left ≡ suc (left - 1) = omega arith in
    let ran = c.tick.ensures.written in
    let some : c.tick.result ≡ Some c.in-Some.last = search rules in
    let its = ap next_at (sym some) ∙ ran.at in
    let now : last.now.0 ≡ at.now.0 = subst (IsNow at.now.0) (sym its) (tick_in s (inputs_of own) at x) in
    let next : c.later-moment-in-loop-left.result.at ≡ next_tick last = c.later-moment-in-loop-left.ensures in
    let later : c.later-moment-in-loop-left.result.at.now.0 ≡ at.now.0 + 1 = ap (λ (a : At). a.now.0) next ∙ ap (λ (n : ℕ). n + 1) now in
    record {
      fits = search rules;
      limit = omega (arith, later, i.limit, one);
      order = subst (λ (t : ℕ). AreFrom tick_of_input t c.split_tick.result.1.now) (sym later) split.later;
      rest = subst (λ (a : At). CompletesLines whole (alone_from s c.split_tick.result.1.now (left - 1) (Some a) y) old new) (sym next)
          (goes_on whole s lines own c.split_tick.result.1.now left (left - 1) at last x y old mid new one split.own split.rest way (record { at = its; made = ran.made }));
    }

pub returns-in_default : goal.returns-in_default
returns-in_default g c =
    let i = c.loop-left.invariant in
    let s = around c.args.surroundings.now in
    let at = c.loop-left.moment.at in
    let lines = c.loop-left.lines.now in
    let left = c.loop-left.left in
    let x = member_of g.E.Executor c.advance-count.new.partition c.advance-count.new.mem in
    let old = sent_of g.S.Sink c.args.output.now in
    let mid = sent_of g.S.Sink c.advance-count.new.output in
    let whole = alone_from s c.args.inputs.now c.args.ticks (Some first_tick) (member_of g.E.Executor c.args.partition.now c.args.mem.now) in
    let none : c.advance-count.result ≡ 0 = omega (arith, c.if-count-gt0.false) in
    let way = none_made s lines whole left c.advance-count.result at (member_of g.E.Executor c.loop-left.partition c.loop-left.mem) x old (sent_of g.S.Sink c.loop-left.output) mid none i.rest c.advance-count.ensures.run.1 in
    let split = c.split_tick.ensures in
    let one : left ≡ suc (left - 1) = omega arith in
    let ran = c.tick.ensures.written in
    let down : c.tick.result ≡ None = search rules in
    ends_down whole s lines c.split_tick.result.0.now c.split_tick.result.1.now left (left - 1) at x (member_of g.E.Executor c.tick.new.partition c.tick.new.mem) old mid (sent_of g.S.Sink c.tick.new.output) one split.own split.rest way (record { at = ap next_at (sym down) ∙ ran.at; made = ran.made })

pub later-moment-requires-in-loop-left : goal.later-moment-requires-in-loop-left
later-moment-requires-in-loop-left g c =
    let i = c.loop-left.invariant in
    let s = around c.args.surroundings.now in
    let at = c.loop-left.moment.at in
    let last = c.in-Some.last.at in
    let x = member_of g.E.Executor c.advance-count.new.partition c.advance-count.new.mem in
    let some : c.tick.result ≡ Some c.in-Some.last = search rules in
    let its = ap next_at (sym some) ∙ c.tick.ensures.written.at in
    let now : last.now.0 ≡ at.now.0 = subst (IsNow at.now.0) (sym its) (tick_in s (inputs_of c.split_tick.result.0.now) at x) in
    omega (arith, now, i.limit, c.requires.ticks, c.loop-left-test.true)

pub returns-else-not-has_failed : goal.returns-else-not-has_failed
returns-else-not-has_failed g c =
    let rest = alone_from (around c.args.surroundings.now) c.loop-left.lines.now c.loop-left.left (Some c.loop-left.moment.at) (member_of g.E.Executor c.loop-left.partition c.loop-left.mem) in
    let now = sent_of g.S.Sink c.loop-left.output in
    let failed : now.failed ≡ true = search rules in
    c.loop-left.invariant.rest.ends now (failed_sent now (text_of rest) failed)

pub returns-after-loop-left : goal.returns-after-loop-left
returns-after-loop-left g c =
    let s = around c.args.surroundings.now in
    let x = member_of g.E.Executor c.loop-left.partition c.loop-left.mem in
    let whole = alone_from s c.args.inputs.now c.args.ticks (Some first_tick) (member_of g.E.Executor c.args.partition.now c.args.mem.now) in
    nothing_left whole s c.loop-left.lines.now c.loop-left.left (Some c.loop-left.moment.at) x (sent_of g.S.Sink c.args.output.now) (sent_of g.S.Sink c.loop-left.output) (omega (arith, c.loop-left-test.false)) c.loop-left.invariant.rest
