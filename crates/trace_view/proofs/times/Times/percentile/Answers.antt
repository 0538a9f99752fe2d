use Rattle.std.proofs.Common.{rules, ◌≡◌, ◌*◌, ◌-◌, ◌^◌, ◌≤◌, sym, subst, ◌∙◌, ap}
use Rattle.trace_view.specs.Percentiles.{IsPercentile, percent_of, reached}
use Rattle.trace_view.proofs.Percentiles.{no_percentile, percentile_is}
use Rattle.trace_view.proofs.times.Times.percentile.Goals as goal

pub returns-then-self-eq0-clause-times : goal.returns-then-self-eq0-clause-times
returns-then-self-eq0-clause-times c = λ times are.
    no_percentile (percent_of c.args.which) c.args.self.now.taken c.args.self.now.counts.entries times c.args.self.now.whole (search rules) are

pub returns-clause-times : goal.returns-clause-times
returns-clause-times c = λ times are.
    let es = c.args.self.now.counts.entries in
    let n = c.args.self.now.taken in
    let fits : n ≤ 2 ^ 64 - 1 = search rules in
    let is : c.reached.result ≡ reached (percent_of c.args.which * n) 0 es = c.reached.ensures ∙ ap (λ w. reached w 0 es) c.wanted.ensures in
    subst (IsPercentile (percent_of c.args.which) times) (sym is)
    (percentile_is c.args.which n es times c.args.self.now.rising c.args.self.now.whole fits (λ none. search (rules, none)) are)
