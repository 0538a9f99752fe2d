use Rattle.std.proofs.Common.{arith, ◌∙◌}
use Rattle.kernel_laws.proofs.Steps.{start_part, start_lines, start_actions}
use Rattle.process_table_base.proofs.table.ProcessTable.start_all_waiting.Goals as goal

pub loop-left-preserved : goal.loop-left-preserved
loop-left-preserved c =
    let there = c.loop-left-test.true in
    let made = c.start_waiting.ensures.step in
    record {
      part = start_part c.args.points.moment.at c.args.points.next.0 _ _ _ _ there made.0 ∙ c.loop-left.invariant.part;
      lines = start_lines c.args.points.moment.at c.args.points.next.0 _ _ _ _ _ _ _ there made.0 made.1 c.loop-left.invariant.lines;
      actions = start_actions c.args.points.moment.at c.args.points.next.0 _ _ _ _ _ _ _ there made.0 made.2 c.loop-left.invariant.actions;
      count = omega arith;
      lines_room = omega arith;
      actions_room = omega arith;
    }
