use Rattle.module.proofs.Prelude.{map, table_of}
use Rattle.module.proofs.Headline.{built_bytes, judged_table}
use Rattle.module.proofs.Refused.{weaker, passed_on, table_refused, refused_with}
use Rattle.module.proofs.building.build.Goals as goal

pub returns-clause-image : goal.returns-clause-image
returns-clause-image c =
    built_bytes (λ bytes. bytes.items) c.args.table.now (map (λ s. s.now) c.args.sources.now) (table_of c.in_ok-table.table) c.build_table.result c.in_ok-table.ensures.table c.build_table.ensures.built

pub returns-clause-refused : goal.returns-clause-refused
returns-clause-refused c =
    weaker _ _ c.build_table.result (refused_with c.args.table.now (map (λ s. s.now) c.args.sources.now) (table_of c.in_ok-table.table) c.in_ok-table.ensures.table) c.build_table.ensures.refused

pub returns-in_err-table-clause-refused : goal.returns-in_err-table-clause-refused
returns-in_err-table-clause-refused c =
    passed_on _ _ c.in_err-table.field-0.0 c.from_residual.result c.from_residual.ensures (table_refused c.args.table.now (map (λ s. s.now) c.args.sources.now)) c.in_err-table.ensures.refused

pub build_table-requires : goal.build_table-requires
build_table-requires c = judged_table c.args.table.now (table_of c.in_ok-table.table) c.in_ok-table.ensures.table
