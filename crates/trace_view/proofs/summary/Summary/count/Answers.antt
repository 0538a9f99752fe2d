use Rattle.std.proofs.Common.{rules}
use Rattle.trace_view.proofs.Behind.{partitions_passed, partitions_read, processes_passed, processes_read}
use Rattle.trace_view.proofs.Reading.{no_errors_behind, no_messages_behind}
use Rattle.trace_view.proofs.Reported.{shares_passed, shares_read}
use Rattle.trace_view.proofs.summary.Summary.count.Goals.{then-event-window+in_ok-count+in_ok-follow, else-event-window}
use Rattle.trace_view.proofs.summary.Summary.count.Goals as goal

pub returns : goal.returns
returns c =
    let window = c.args.self.now.extent.window in
    let e = c.args.event.now in
    let old = c.args.self.now in
    elim c.if-event-window.branch [
      | then-event-window+in_ok-count+in_ok-follow w ↦ rw w.self-is (record {
        to = search rules;
        extent = search rules;
        told = search rules;
        shares = shares_read window e old.shares _ (search rules) w.in_ok-follow.ensures;
        partitions = partitions_read window old.told e old.counts.partitions.rows.items _ (search rules) w.in_ok-count.ensures.partitions;
        processes = processes_read window e old.counts.processes.rows.items _ (search rules) w.in_ok-count.ensures.processes;
        errors = w.in_ok-count.ensures.errors;
        messages = w.in_ok-count.ensures.messages;
      })
      | else-event-window w ↦ rw w.self-is (record {
        to = search rules;
        extent = search rules;
        told = search rules;
        shares = shares_passed window e old.shares (search rules);
        partitions = partitions_passed window old.told e old.counts.partitions.rows.items (search rules);
        processes = processes_passed window e old.counts.processes.rows.items (search rules);
        errors = no_errors_behind window e.tick.0 e.partition e.kind old.counts.errors (search rules);
        messages = no_messages_behind window e.tick.0 e.partition e.kind old.counts.traffic (search rules);
      })
    ]
