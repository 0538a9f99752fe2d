use Rattle.lone_partition.proofs.Prelude.{◌≡◌, ℕ, suc, ◌+◌, ◌-◌, ap, subst, rules, arith, sends_messages, member_of, around, sent_of}
use Rattle.lone_partition.proofs.Written.{Completes, goes_on, is_over, starts_out}
use Rattle.lone_partition.proofs.sending.send_messages.Goals as goal

pub loop-init : goal.loop-init
loop-init g c =
    let whole = λ (n : ℕ). sends_messages n (around c.args.surroundings.now) c.args.moment.at c.args.port (member_of g.E.Executor c.args.partition.now c.args.mem.now) in
    let all : c.args.count ≡ c.args.count - 0 = omega arith in
    let sent = sent_of g.S.Sink c.args.output.now in
    record {
      fits = search rules;
      rest = subst (λ (n : ℕ). Completes (whole c.args.count) (whole n) sent sent) all (starts_out (whole c.args.count) sent);
    }

pub loop-preserved : goal.loop-preserved
loop-preserved g c =
    let left : c.args.count - c.loop.counter ≡ suc (c.args.count - (c.loop.counter + 1)) = omega arith in
    let split = ap (λ (n : ℕ). sends_messages n (around c.args.surroundings.now) c.args.moment.at c.args.port (member_of g.E.Executor c.loop.partition c.loop.mem)) left in
    let more = sends_messages (c.args.count - (c.loop.counter + 1)) (around c.args.surroundings.now) c.args.moment.at c.args.port in
    record {
      fits = search rules;
      rest = goes_on more (member_of g.E.Executor c.send_message.new.partition c.send_message.new.mem) split c.loop.invariant.rest c.send_message.ensures.written;
    }

pub returns-clause-written : goal.returns-clause-written
returns-clause-written g c =
    let now = member_of g.E.Executor c.loop.partition c.loop.mem in
    let none : c.args.count - c.loop.counter ≡ 0 = omega (arith, c.loop-test.false) in
    is_over now (ap (λ (n : ℕ). sends_messages n (around c.args.surroundings.now) c.args.moment.at c.args.port now) none) c.loop.invariant.rest
