use Rattle.std.proofs.Common.{◌≡◌, [], sym, subst, rules}
use Rattle.kernel_meaning.specs.Partition.{told}
use Rattle.partition.specs.Members.{IsRecorded}
use Rattle.partition.proofs.Told.{records_none}
use Rattle.partition.proofs.partition.Partition.finish.Goals as goal

pub returns-else-not-is_empty-clause-told : goal.returns-else-not-is_empty-clause-told
returns-else-not-is_empty-clause-told g c =
    let log = c.args.log.now in
    let room = c.args.self.now.room in
    let none : c.args.self.now.out.lines ≡ [] = search rules in
    subst (λ ls. IsRecorded g.L.EventLog log log room room (told c.args.name c.args.moment.at ls)) (sym none) (records_none g.L.EventLog log room g.met.L.EventLog.none)
