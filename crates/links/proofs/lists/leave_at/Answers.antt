use Rattle.links.proofs.Prelude.{rules, without}
use Rattle.links.proofs.Leaving.{once-in}
use Rattle.links.proofs.OneHome.{put-entries}
use Rattle.links.proofs.lists.leave_at.Goals as goal

pub leave-requires : goal.leave-requires
leave-requires c =
    once-in c.args.lists.now.items c.from.result c.args.list.0 c.args.process.0 c.in-Some.entries.now c.from.ensures (search rules) c.in-Some.ensures.value c.requires

pub returns-in-Some : goal.returns-in-Some
returns-in-Some c =
    put-entries c.args.lists.now.items c.from.result c.args.list.0 c.in-Some.entries.now c.leave.new.entries (without c.args.process.0) c.from.ensures (search rules) c.in-Some.ensures.value c.leave.ensures
