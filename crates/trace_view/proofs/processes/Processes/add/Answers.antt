use Rattle.std.proofs.Common.{rules, ◌≡◌, refl, true}
use Rattle.apex_types.specs.Line.{subject_text}
use Rattle.trace_view.specs.Processes.{is_there}
use Rattle.trace_view.proofs.Known.{has_added, has_none_added, kept_added}
use Rattle.trace_view.proofs.processes.Processes.add.Goals as goal

pub returns-in_ok-push-clause-kept : goal.returns-in_ok-push-clause-kept
returns-in_ok-push-clause-kept c =
    kept_added c.args.self.now.rows.items c.push.new.self.items _ c.in_ok-push.ensures.items
    (record {
      held = c.new.ensures;
      tally = c.new-then-not-is_there.ensures;
      to_running = c.new-then-not-is_there-2.ensures.to_running;
      to_end = c.new-then-not-is_there-2.ensures.to_end;
    })

pub returns-in_ok-push-clause-made : goal.returns-in_ok-push-clause-made
returns-in_ok-push-clause-made c = has_added c.args.partition.now c.args.who.now c.args.self.now.rows.items c.push.new.self.items _ c.in_ok-push.ensures.items refl refl

pub returns-else-not-is_there-clause-made : goal.returns-else-not-is_there-clause-made
returns-else-not-is_there-clause-made c =
    let rows = c.args.self.now.rows.items in
    let there : is_there c.args.partition.now (subject_text c.args.who.now) rows ≡ true = search rules in
    has_none_added c.args.partition.now c.args.who.now rows there
