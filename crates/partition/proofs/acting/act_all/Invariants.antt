use Rattle.std.proofs.Common.{◌≡◌, drop}
use Rattle.partition.specs.Members.{member_at, acts_all}
use Rattle.partition.proofs.acting.act_all.Given as goal

abbrev pub invariant-loop-place : goal.invariant-loop-place
invariant-loop-place g l = record {
  fits : g.E.Executor.laid l.mem ≡ g.E.Executor.layout l.executor;
  member : acts_all (drop l.place l.out.actions) (member_at g.E.Executor l.kernel l.executor l.mem) ≡ acts_all l.out.actions (member_at g.E.Executor l.fn.kernel l.fn.executor l.fn.mem);
}
