use Rattle.module.proofs.ticks.split_tick.Goals as goal

pub returns-clause-own : goal.returns-clause-own
returns-clause-own c = c.split_tick.ensures.own

pub returns-clause-of_tick : goal.returns-clause-of_tick
returns-clause-of_tick c = c.split_tick.ensures.only

pub returns-clause-later : goal.returns-clause-later
returns-clause-later c = c.split_tick.ensures.later

pub returns-clause-rest : goal.returns-clause-rest
returns-clause-rest c t h = c.split_tick.ensures.rest t h
