use Rattle.module.proofs.Prelude.{rules, ◌≡◌, List, length, map, sym, ◌∙◌, length-map, partition_view, table_of, PartitionRow, AreSourceRefusals}
use Rattle.std.proofs.Common.{subst}
use Rattle.std.specs.Prelude.{IfErr}
use Rattle.module.proofs.Costed.{source_not_costed}
use Rattle.module.proofs.Refused.{weaker}
use Rattle.module.proofs.costing.accept_with.Goals as goal

pub returns-clause-refused : goal.returns-clause-refused
returns-clause-refused c =
    let texts = map (λ s. s.now) c.args.sources.now in
    let e : length c.args.sources.now ≡ length c.args.table.now.partitions.items = search rules in
    let count : length texts ≡ length (table_of c.args.table.now).partitions = length-map c.args.sources.now (λ s. s.now) ∙ e ∙ sym (length-map c.args.table.now.partitions.items partition_view) in
    let here = subst (λ (rows : List PartitionRow). IfErr c.accept_sources.result (λ fault. AreSourceRefusals (map partition_view rows) texts fault)) c.as_slice-rows.ensures.value c.accept_sources.ensures.refused in
    weaker _ _ c.accept_sources.result (source_not_costed (table_of c.args.table.now) texts count) here
