use Rattle.lone_partition.proofs.Prelude.{ap, subst, sym, ◌∙◌, ◌+◌, AreFrom, lines_in}
use Rattle.lone_partition.proofs.LinesOfTicks.{of_tick_again}
use Rattle.lone_partition.proofs.lines.split_tick.Goals as goal

pub returns-clause-own : goal.returns-clause-own
returns-clause-own g c = c.split_at.ensures.front ∙ c.count_of_tick.ensures.own

pub returns-clause-only : goal.returns-clause-only
returns-clause-only g c =
    let tick_of = g.L.HasTick.tick_of in
    let own = c.split_at.ensures.front ∙ c.count_of_tick.ensures.own in
    ap (lines_in tick_of c.args.tick.0) own ∙ of_tick_again tick_of c.args.tick.0 c.args.lines.now ∙ sym own

pub returns-clause-later : goal.returns-clause-later
returns-clause-later g c = subst (AreFrom g.L.HasTick.tick_of (c.args.tick.0 + 1)) (sym c.split_at.ensures.back) c.count_of_tick.ensures.later

pub returns-clause-rest : goal.returns-clause-rest
returns-clause-rest g c t h = ap (lines_in g.L.HasTick.tick_of t) c.split_at.ensures.back ∙ c.count_of_tick.ensures.rest t h
