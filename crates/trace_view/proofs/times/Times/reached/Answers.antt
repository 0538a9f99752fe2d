use Rattle.std.proofs.Common.{◌≡◌, ◌+◌, ◌-◌, ◌^◌, min, arith}
use Rattle.std.specs.Map.Iter.{deref_pair}
use Rattle.std.proofs.lemmas.Map.Iter.{rest_all, rest_more}
use Rattle.trace_view.proofs.Percentiles.{found_here, goes_on, none_left}
use Rattle.trace_view.proofs.times.Times.reached.Goals as goal

pub returns-then-wanted-from : goal.returns-then-wanted-from
returns-then-wanted-from c =
    let items = rest_more deref_pair c.loop-time.time-iterator c.next.new.self c.next.result (c.in-Some.time, c.in-Some.often) c.in-Some.is c.next.ensures.steps in
    let sum : c.from.result ≡ min (c.loop-time.before + c.in-Some.often.now) (2 ^ 64 - 1) = omega (arith, c.from.ensures, c.saturating_add-before.ensures) in
    found_here c.args.wanted c.loop-time.before c.in-Some.time.now c.in-Some.often.now c.from.result c.loop-time.time-iterator c.next.new.self c.args.self.now.counts.entries
    items sum (omega (arith, c.if-wanted-from.true)) c.loop-time.invariant

pub loop-time-preserved : goal.loop-time-preserved
loop-time-preserved c =
    let items = rest_more deref_pair c.loop-time.time-iterator c.next.new.self c.next.result (c.in-Some.time, c.in-Some.often) c.in-Some.is c.next.ensures.steps in
    let sum : c.saturating_add-before.result ≡ min (c.loop-time.before + c.in-Some.often.now) (2 ^ 64 - 1) = omega (arith, c.saturating_add-before.ensures) in
    goes_on c.args.wanted c.loop-time.before c.in-Some.time.now c.in-Some.often.now c.saturating_add-before.result c.loop-time.time-iterator c.next.new.self c.args.self.now.counts.entries
    items sum (omega (arith, c.from.ensures, c.if-wanted-from.false)) c.loop-time.invariant

pub returns : goal.returns
returns c =
    none_left c.args.wanted c.loop-time.before c.loop-time.time-iterator c.args.self.now.counts.entries
    (rest_all deref_pair c.loop-time.time-iterator c.next.new.self c.next.result c.in-None.is c.next.ensures.steps) c.loop-time.invariant
