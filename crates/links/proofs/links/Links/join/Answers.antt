use Rattle.links.proofs.Prelude.{length-set, arith, length-map, MOST_PROCESSES, entries_of}
use Rattle.links.proofs.OneHome.{room, IsHomed-joins}
use Rattle.links.proofs.links.Links.join.Goals as goal

pub join_at-requires : goal.join_at-requires
join_at-requires c =
    room MOST_PROCESSES c.args.entry.process.0 _ _ c.self.invariant.complete c.self.invariant.homed c.requires.below c.args.list.0 (rw (← c.self.view_is) at c.requires.nowhere c.args.list.0)

pub invariant_of-self : goal.invariant_of-self
invariant_of-self c = record {
  complete = rw c.put_home.ensures (rw length-set c.self.invariant.complete);
  homed = rw (c.join_at.ensures, c.put_home.ensures) (IsHomed-joins c.args.discipline c.args.entry c.args.list _ _ c.self.invariant.homed (omega (arith, length-map c.self.inside.lists.items entries_of)) (omega arith) (rw (← c.self.view_is) at c.requires.nowhere));
}
