use Rattle.module.proofs.Prelude.{List, map, sym, ◌∙◌, length-map, partition_of, partition_view, table_of, PartitionRow, AreCostsOf, AreSources}
use Rattle.std.proofs.Common.{subst}
use Rattle.module.proofs.Costed.{are_costed}
use Rattle.module.proofs.Refused.{as_many}
use Rattle.module.proofs.costing.costs.Goals as goal

pub costs_of_sources-requires : goal.costs_of_sources-requires
costs_of_sources-requires c =
    let m = c.in_ok-table.field-0 in
    let texts = map (λ s. s.now) c.args.sources.now in
    let programs = subst (λ (rows : List PartitionRow). AreSources (map partition_view rows) texts m.sources.items) (sym c.as_slice-rows.ensures.value) c.in_ok-table.ensures.accepted.programs in
    as_many (map partition_of c.as_slice-rows.result.now) texts m.sources.items programs ∙ length-map c.as_slice-rows.result.now partition_of

pub returns-clause-costs : goal.returns-clause-costs
returns-clause-costs c =
    let m = c.in_ok-table.field-0 in
    let t = table_of m.table in
    let texts = map (λ s. s.now) c.args.sources.now in
    let costs = c.in_ok-costs_of_sources.field-0.items in
    let costed = subst (λ (rows : List PartitionRow). AreCostsOf t.costs (map partition_view rows) m.sources.items costs) c.as_slice-rows.ensures.value c.in_ok-costs_of_sources.ensures in
    let given = c.in_ok-table.ensures.accepted in
    record { rows = t; accepted = given.accepted; costed = are_costed t.costs t.partitions texts m.sources.items costs given.programs costed }
