use Rattle.module.proofs.Prelude.{◌≡◌, ◌≤◌, ◌<◌, ◌+◌, ◌-◌, ℕ, Some, owner, tick_from, EndsQuietly, members_in, plan_of}
use Rattle.module.proofs.member.Module.stay.Given as goal

abbrev pub invariant-loop-ticks : goal.invariant-loop-ticks
invariant-loop-ticks g l = record {
  few : l.ticks ≤ l.most;
  some : 0 < l.ticks;
  owner : (i : ℕ) → i < l.ticks → owner (plan_of l.self.image).schedule (tick_from l.origin.0 (l.self.now.0 + i)) ≡ Some l.partition.0;
  ended : (i : ℕ) → 0 < i → i < l.ticks → EndsQuietly (plan_of l.self.image) l.origin.0 (members_in g.E.Executor l.self.members) l.partition.0 (l.self.now.0 + i);
}

abbrev pub decreases-loop-ticks : goal.decreases-loop-ticks
decreases-loop-ticks g l = l.most - l.ticks
