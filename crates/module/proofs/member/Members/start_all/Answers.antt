use Rattle.module.proofs.Prelude.{rules, ◌≡◌, ◌≤◌, ◌+◌, length, drop, ◌∙◌, flat_map, slice_get, start_lines, sent_of, members_in}
use Rattle.lone_partition.proofs.Outputs.{lines_are_over, lines_go_on}
use Rattle.module.proofs.Starting.{within_members, past_members, all_past, none_past, starts_member, step_members, step_lines}
use Rattle.module.proofs.member.Members.start_all.Goals as goal

pub loop-place-preserved : goal.loop-place-preserved
loop-place-preserved g c =
    let at = c.args.moment.at in
    let reason = c.args.condition in
    let n = c.loop-place.place in
    let all = members_in g.E.Executor c.args.self.now in
    let now = members_in g.E.Executor c.loop-place.self in
    let so_far = c.loop-place.invariant.members in
    let within = within_members at reason g.E.Executor c.loop-place.self.partitions.items c.loop-place.self.memory n _ c.loop-place.self.fit so_far (search rules) in
    let made = c.step_at.ensures.written in
    record {
      members = step_members at reason now (members_in g.E.Executor c.step_at.new.self) all n so_far within made.state;
      rest = lines_go_on (flat_map (start_lines at reason) all) (flat_map (start_lines at reason) (drop n all)) (starts_member at reason now n (slice_get now n)).lines (flat_map (start_lines at reason) (drop (n + 1) all))
          (sent_of g.S.Sink c.args.output.now) (sent_of g.S.Sink c.loop-place.output) (sent_of g.S.Sink c.step_at.new.output) (step_lines at reason now all n so_far within) c.loop-place.invariant.rest made.sent;
    }

pub returns : goal.returns
returns g c =
    let at = c.args.moment.at in
    let reason = c.args.condition in
    let members = c.loop-place.self in
    let all = members_in g.E.Executor c.args.self.now in
    let last : length members.partitions.items ≤ c.loop-place.place = search rules in
    let so_far = c.loop-place.invariant.members in
    let behind = past_members at reason g.E.Executor members.partitions.items members.memory c.loop-place.place _ members.fit so_far last in
    record {
      state = so_far ∙ all_past at reason c.loop-place.place _ behind;
      sent = lines_are_over (flat_map (start_lines at reason) all) (flat_map (start_lines at reason) (drop c.loop-place.place all)) (sent_of g.S.Sink c.args.output.now) (sent_of g.S.Sink c.loop-place.output) (none_past at reason c.loop-place.place all behind) c.loop-place.invariant.rest;
    }
