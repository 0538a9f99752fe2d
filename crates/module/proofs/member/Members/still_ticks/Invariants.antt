use Rattle.module.proofs.Prelude.{◌≤◌, ◌<◌, ◌-◌, length, members_in}
use Rattle.module.proofs.Bursts.{AreStillBefore}
use Rattle.module.proofs.member.Members.still_ticks.Given as goal

abbrev pub invariant-loop-place : goal.invariant-loop-place
invariant-loop-place g l = record {
  inside : l.place ≤ length l.self.partitions.items;
  within : l.least ≤ l.most;
  still : 0 < l.least → AreStillBefore l.moment.at.origin.0 l.moment.at.now.0 l.least l.place (members_in g.E.Executor l.self);
}

abbrev pub decreases-loop-place : goal.decreases-loop-place
decreases-loop-place g l = length l.self.partitions.items - l.place
