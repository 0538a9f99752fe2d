use Rattle.module.proofs.Prelude.{map, table_of}
use Rattle.module.proofs.Costed.{not_costed_with, table_not_costed}
use Rattle.module.proofs.Refused.{passed_on}
use Rattle.module.proofs.costing.accept_module.Goals as goal

pub returns-in_err-table-clause-refused : goal.returns-in_err-table-clause-refused
returns-in_err-table-clause-refused c =
    passed_on _ _ c.in_err-table.field-0.0 c.from_residual.result c.from_residual.ensures (table_not_costed c.args.table.now (map (λ s. s.now) c.args.sources.now)) c.in_err-table.ensures.refused

pub returns-in_err-sources-clause-refused : goal.returns-in_err-sources-clause-refused
returns-in_err-sources-clause-refused c =
    passed_on _ _ c.in_err-sources.field-0.0 c.from_residual-in_err-sources.result c.from_residual-in_err-sources.ensures (not_costed_with c.args.table.now (map (λ s. s.now) c.args.sources.now) (table_of c.in_ok-table.table) c.in_ok-table.ensures.table) c.in_err-sources.ensures.refused
