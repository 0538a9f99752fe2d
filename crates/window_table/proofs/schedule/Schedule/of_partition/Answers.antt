use Rattle.std.proofs.Common.{rules}
use Rattle.window_table.proofs.Apart.{some_apart}
use Rattle.window_table.proofs.schedule.Schedule.of_partition.Goals as goal

pub invariant_of-result : goal.invariant_of-result
invariant_of-result c = record {
  frame_there = search rules;
  apart = some_apart c.args.self.now.frame _ c.as_slice.result.now _ c.in_ok-own_windows.ensures (search rules);
}
