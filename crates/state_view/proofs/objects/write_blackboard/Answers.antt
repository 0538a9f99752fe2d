-- its row, its message and those that wait
use Rattle.state_rows.specs.Fields.{field_of}
use Rattle.state_rows.specs.States.{blackboard_row, message_rows, shown_messages, waiter_rows}
use Rattle.state_view.proofs.Loops.{three}
use Rattle.state_view.proofs.objects.write_blackboard.Goals as goal

pub returns : goal.returns
returns c =
    let name = c.args.of.now.name in
    let object = field_of c.args.object in
    three c.args.of.now.form (blackboard_row name object c.args.blackboard.now) (message_rows name object (shown_messages c.args.blackboard.now.shown)) (waiter_rows name c.args.processes.now object c.args.list) _ _ _ _ c.in_ok-write_blackboard_row.ensures c.in_ok-write_shown.ensures c.in_ok-write_waiters.ensures
