use Rattle.lone_partition.proofs.Prelude.{refl, sends_and_ticks, member_of, around}
use Rattle.lone_partition.proofs.Written.{then_runs_made}
use Rattle.lone_partition.proofs.ticking.tick.Goals as goal

pub returns-clause-written : goal.returns-clause-written
returns-clause-written g c =
    let ran = c.in_ok-last.ensures.written in
    then_runs_made (sends_and_ticks (around c.args.surroundings.now)) c.in_ok-last.last.at (member_of g.E.Executor c.take_all.new.partition c.take_all.new.mem) refl ran.at ran.made (record { at = refl; made = c.send_and_tick.ensures.written })
