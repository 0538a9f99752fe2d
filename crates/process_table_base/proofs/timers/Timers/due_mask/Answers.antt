use Rattle.process_table_base.proofs.timers.Timers.due_mask.Goals as goal

pub returns : goal.returns
returns c = λ rows timed. c.due_mask.ensures _ _ timed.dues timed.missed
