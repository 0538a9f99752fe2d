use Rattle.lone_partition.proofs.Prelude.{ℕ, List, Option, sym, subst, goes_by_way, member_of, sent_of, IsMade}
use Rattle.lone_partition.proofs.sending.go_out.Goals as goal

pub returns-in-Some-clause-written : goal.returns-in-Some-clause-written
returns-in-Some-clause-written g c =
    subst (λ (way : Option (List ℕ)). IsMade (goes_by_way c.args.moment.at c.args.message way (member_of g.E.Executor c.args.partition.now c.args.mem.now)) (member_of g.E.Executor c.write_step.new.partition c.write_step.new.mem) (sent_of g.S.Sink c.args.output.now) (sent_of g.S.Sink c.write_step.new.output))
    (sym c.in-Some.is) c.write_step.ensures.written
