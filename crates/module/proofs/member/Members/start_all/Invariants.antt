use Rattle.module.proofs.Prelude.{◌≡◌, ◌-◌, length, drop, flat_map, start_lines, sent_of, members_in}
use Rattle.lone_partition.proofs.Outputs.{CompletesLines}
use Rattle.module.proofs.Starting.{started_to}
use Rattle.module.proofs.member.Members.start_all.Given as goal

abbrev pub invariant-loop-place : goal.invariant-loop-place
invariant-loop-place g l = record {
  members : members_in g.E.Executor l.self ≡ started_to l.moment.at l.fn.condition l.place (members_in g.E.Executor l.fn.self);
  rest : CompletesLines (flat_map (start_lines l.moment.at l.fn.condition) (members_in g.E.Executor l.fn.self)) (flat_map (start_lines l.moment.at l.fn.condition) (drop l.place (members_in g.E.Executor l.fn.self))) (sent_of g.S.Sink l.fn.output) (sent_of g.S.Sink l.output);
}

abbrev pub decreases-loop-place : goal.decreases-loop-place
decreases-loop-place g l = length l.self.partitions.items - l.place
