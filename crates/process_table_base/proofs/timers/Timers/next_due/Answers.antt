use Rattle.process_table_base.proofs.timers.Timers.next_due.Goals as goal

pub returns : goal.returns
returns c = λ rows timed. c.next_due.ensures _ _ timed.dues timed.missed
