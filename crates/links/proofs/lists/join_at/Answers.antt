use Rattle.links.proofs.Prelude.{rules, joined}
use Rattle.links.proofs.OneHome.{put-entries}
use Rattle.links.proofs.lists.join_at.Goals as goal

pub returns-in-Some : goal.returns-in-Some
returns-in-Some c =
    put-entries c.args.lists.now.items c.from.result c.args.list.0 c.in-Some.entries.now c.join.new.entries (joined c.args.discipline c.args.entry) c.from.ensures (search rules) c.in-Some.ensures.value c.join.ensures
