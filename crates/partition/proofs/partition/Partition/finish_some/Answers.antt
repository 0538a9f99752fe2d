use Rattle.std.proofs.Common.{rules}
use Rattle.partition.proofs.Told.{records_lines}
use Rattle.partition.proofs.partition.Partition.finish_some.Goals as goal

pub returns-clause-told : goal.returns-clause-told
returns-clause-told g c =
    records_lines g.L.EventLog c.args.log.now c.tell.new.log c.args.self.now.room _ c.args.name.now c.args.moment.at c.args.self.now.out.lines c.tell.ensures.told c.tell.ensures.few (search rules)
