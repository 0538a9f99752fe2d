use Rattle.lone_partition.proofs.Prelude.{◌≡◌, ℕ, suc, ◌+◌, ◌-◌, ap, subst, rules, arith, sends_ports, member_of, around, sent_of}
use Rattle.lone_partition.proofs.Written.{Completes, goes_on, is_over, starts_out}
use Rattle.lone_partition.proofs.sending.send_ports.Goals as goal

pub loop-place-init : goal.loop-place-init
loop-place-init g c =
    let whole = λ (n : ℕ). sends_ports n 1 (around c.args.surroundings.now) c.args.moment.at (member_of g.E.Executor c.args.partition.now c.args.mem.now) in
    let all : c.args.count ≡ c.args.count - 0 = omega arith in
    let sent = sent_of g.S.Sink c.args.output.now in
    record {
      fits = search rules;
      rest = subst (λ (n : ℕ). Completes (whole c.args.count) (whole n) sent sent) all (starts_out (whole c.args.count) sent);
    }

pub loop-place-preserved : goal.loop-place-preserved
loop-place-preserved g c =
    let place = c.loop-place.place in
    let left : c.args.count - place ≡ suc (c.args.count - (place + 1)) = omega arith in
    let split = ap (λ (n : ℕ). sends_ports n (place + 1) (around c.args.surroundings.now) c.args.moment.at (member_of g.E.Executor c.loop-place.partition c.loop-place.mem)) left in
    let more = sends_ports (c.args.count - (place + 1)) (place + 1 + 1) (around c.args.surroundings.now) c.args.moment.at in
    record {
      fits = search rules;
      rest = goes_on more (member_of g.E.Executor c.send_port.new.partition c.send_port.new.mem) split c.loop-place.invariant.rest c.send_port.ensures.written;
    }

pub returns-clause-written : goal.returns-clause-written
returns-clause-written g c =
    let place = c.loop-place.place in
    let now = member_of g.E.Executor c.loop-place.partition c.loop-place.mem in
    let none : c.args.count - place ≡ 0 = omega (arith, c.loop-place-test.false) in
    is_over now (ap (λ (n : ℕ). sends_ports n (place + 1) (around c.args.surroundings.now) c.args.moment.at now) none) c.loop-place.invariant.rest
