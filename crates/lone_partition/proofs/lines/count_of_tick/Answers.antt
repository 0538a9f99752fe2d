use Rattle.lone_partition.proofs.Prelude.{◌≢◌, ap, subst, sym, ◌∙◌, rules, ℕ, ◌+◌, take, drop, AreFrom, lines_in}
use Rattle.lone_partition.proofs.LinesOfTicks.{front_now, front_later, front_rest, reached, reached_all}
use Rattle.lone_partition.proofs.lines.count_of_tick.Goals as goal

pub returns-else-eq-clause-own : goal.returns-else-eq-clause-own
returns-else-eq-clause-own g c =
    let tick_of = g.L.HasTick.tick_of in
    let lines = c.args.lines.now in
    let line = c.index-lines-count.result in
    let other : tick_of line ≢ c.args.tick.0 = search rules in
    let all = reached tick_of c.args.tick.0 lines c.loop-count.count line c.loop-count.invariant.so_far c.loop-count-test.true c.index-lines-count.is other in
    ap (λ (n : ℕ). take n lines) all ∙ front_now tick_of c.args.tick.0 lines c.requires.order

pub returns-else-eq-clause-later : goal.returns-else-eq-clause-later
returns-else-eq-clause-later g c =
    let tick_of = g.L.HasTick.tick_of in
    let lines = c.args.lines.now in
    let line = c.index-lines-count.result in
    let other : tick_of line ≢ c.args.tick.0 = search rules in
    let all = reached tick_of c.args.tick.0 lines c.loop-count.count line c.loop-count.invariant.so_far c.loop-count-test.true c.index-lines-count.is other in
    subst (λ (n : ℕ). AreFrom tick_of (c.args.tick.0 + 1) (drop n lines)) (sym all) (front_later tick_of c.args.tick.0 lines c.requires.order)

pub returns-else-eq-clause-rest : goal.returns-else-eq-clause-rest
returns-else-eq-clause-rest g c t h =
    let tick_of = g.L.HasTick.tick_of in
    let lines = c.args.lines.now in
    let line = c.index-lines-count.result in
    let other : tick_of line ≢ c.args.tick.0 = search rules in
    let all = reached tick_of c.args.tick.0 lines c.loop-count.count line c.loop-count.invariant.so_far c.loop-count-test.true c.index-lines-count.is other in
    ap (λ (n : ℕ). lines_in tick_of t (drop n lines)) all ∙ front_rest tick_of c.args.tick.0 t lines h

pub returns-after-loop-count-clause-own : goal.returns-after-loop-count-clause-own
returns-after-loop-count-clause-own g c =
    let tick_of = g.L.HasTick.tick_of in
    let lines = c.args.lines.now in
    let all = reached_all tick_of c.args.tick.0 lines c.loop-count.count c.loop-count.invariant.so_far c.loop-count-test.false in
    ap (λ (n : ℕ). take n lines) all ∙ front_now tick_of c.args.tick.0 lines c.requires.order

pub returns-after-loop-count-clause-rest : goal.returns-after-loop-count-clause-rest
returns-after-loop-count-clause-rest g c t h =
    let tick_of = g.L.HasTick.tick_of in
    let lines = c.args.lines.now in
    let all = reached_all tick_of c.args.tick.0 lines c.loop-count.count c.loop-count.invariant.so_far c.loop-count-test.false in
    ap (λ (n : ℕ). lines_in tick_of t (drop n lines)) all ∙ front_rest tick_of c.args.tick.0 t lines h
