use Rattle.std.proofs.Common.{rules, ℕ, Option, sym, ap, subst, ◌∙◌}
use Rattle.links.specs.Timers.{IsExact, ticks_with}
use Rattle.process_table_base.specs.Timed.{deadline_of, deadlines, due_of, due_times}
use Rattle.process_table_base.proofs.Timed.{exact_with, timed_same}
use Rattle.process_table_base.proofs.timers.Timers.renew.Goals as goal

pub returns-in-Process : goal.returns-in-Process
returns-in-Process c = rw c.in-Process.is (λ rows is timed.
    let p = c.in-Process.process.0 in
    let exact = c.renew.ensures (due_times rows) (ap due_of is ∙ sym c.due_tick.ensures) timed.dues in
    record {
      dues = exact_with due_of rows p c.args.old.now c.args.row.now is _ (subst (λ (o : Option ℕ). IsExact (ticks_with p o (due_times rows)) c.renew.new.list) c.due_tick-in-Process.ensures exact);
      missed = exact_with deadline_of rows p c.args.old.now c.args.row.now is _ (c.renew-in-Process.ensures (deadlines rows) (ap deadline_of is) timed.missed);
    })

pub returns-in_default : goal.returns-in_default
returns-in_default c = λ rows is timed. timed_same rows c.args.runner c.args.row.now _ (λ p. search rules) timed
