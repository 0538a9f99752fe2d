use Rattle.module.proofs.Prelude.{rules, ◌≡◌, ◌++◌, ◌∷◌}
use Rattle.std.proofs.Common.{[]}
use Rattle.module.proofs.Built.{one_longer}
use Rattle.module.proofs.Costed.{next_costed, one_fewer, stands_within}
use Rattle.module.proofs.costing.costs_of_sources.Goals as goal

pub loop-source-preserved : goal.loop-source-preserved
loop-source-preserved c =
    let pushed : c.push.new.self.items ≡ c.loop-source.reports.items ++ c.in_ok-partition_costs.field-0 ∷ [] = search rules in
    let within = stands_within c.args.rows.now c.loop-source.place c.in-Some.source _ _ c.in-Some.ensures.steps.0 c.loop-source.invariant.left in
    record {
      place = one_longer c.loop-source.yielded c.in-Some.source c.loop-source.place c.loop-source.invariant.place;
      left = one_fewer c.args.rows.now c.loop-source.place c.in-Some.source _ _ c.in-Some.ensures.steps.0 c.loop-source.invariant.left;
      costed = next_costed c.args.costs.now c.args.rows.now c.loop-source.place c.loop-source.yielded c.in-Some.source c.loop-source.reports.items c.push.new.self.items c.index-rows-place.result c.in_ok-partition_costs.field-0 within c.index-rows-place.is pushed c.in_ok-partition_costs.ensures c.loop-source.invariant.costed;
    }
