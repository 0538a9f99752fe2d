use Rattle.std.proofs.Common.{◌≡◌, ◌+◌, ◌≤◌, ◌++◌, length}
use Rattle.apex_types.specs.declared.limits.TheConstants.{MOST_PROCESSES}
use Rattle.kernel_meaning.specs.Times.{start_from, start_all_waiting}
use Rattle.process_table_base.proofs.table.ProcessTable.start_all_waiting.Given as goal

abbrev pub invariant-loop-left : goal.invariant-loop-left
invariant-loop-left l = record {
  part : (start_from l.points.moment.at l.points.next.0 l.left l.place l.self).part ≡ (start_all_waiting l.points.moment.at l.points.next.0 l.fn.self).part;
  lines : l.out.lines ++ (start_from l.points.moment.at l.points.next.0 l.left l.place l.self).lines ≡ l.fn.out.lines ++ (start_all_waiting l.points.moment.at l.points.next.0 l.fn.self).lines;
  actions : l.out.actions ++ (start_from l.points.moment.at l.points.next.0 l.left l.place l.self).actions ≡ l.fn.out.actions ++ (start_all_waiting l.points.moment.at l.points.next.0 l.fn.self).actions;
  count : l.place + l.left ≤ MOST_PROCESSES;
  lines_room : length l.out.lines ≤ length l.fn.out.lines + l.place;
  actions_room : length l.out.actions ≤ length l.fn.out.actions;
}

abbrev pub decreases-loop-left : goal.decreases-loop-left
decreases-loop-left l = l.left
