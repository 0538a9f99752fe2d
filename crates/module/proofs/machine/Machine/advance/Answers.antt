use Rattle.module.proofs.Prelude.{◌≡◌, true, false, ap, rules, sent_of, Sent, IsBrokenOff, plan_of, standing_of}
use Rattle.std.proofs.Common.{subst}
use Rattle.partition_base.specs.contracts.machine.PartitionProcessorExecutor.TheImpl.{ghosts as executor}
use Rattle.module.proofs.Passed.{broken_there, passed_some}
use Rattle.module.proofs.machine.Machine.advance.Goals as goal

pub returns-then-has_failed-clause-run : goal.returns-then-has_failed-clause-run
returns-then-has_failed-clause-run g c =
    let plan = plan_of c.args.self.now.module.image in
    let s = standing_of executor c.args.self.now.module in
    let old = sent_of g.S.Sink c.new-output.result in
    let new = sent_of g.S.Sink c.advance-count.new.output in
    let sound : old.failed ≡ false = ap (λ (o : Sent). o.failed) c.new-output.ensures in
    let failed : new.failed ≡ true = search rules in
    let next = standing_of executor c.advance-count.new.self in
    broken_there (search rules) (search rules)
    (subst (λ (o : Sent). IsBrokenOff plan c.args.lines.now c.args.most s o.taken new.taken o.failures new.failures) c.new-output.ensures
    (passed_some plan c.args.lines.now c.args.most c.advance-count.result s next old new sound failed c.advance-count.ensures.run))
