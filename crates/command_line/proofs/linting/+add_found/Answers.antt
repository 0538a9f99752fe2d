use Rattle.std.proofs.Common.{rules, ◌≡◌, [], ◌∷◌, ◌++◌}
use Rattle.window_table.specs.Views.{table_of}
use Rattle.command_line.proofs.Linted.{more_found_by}
use Rattle.command_line.proofs.linting.+add_found.Goals as goal

pub returns : goal.returns
returns t c =
    let f = c.in_ok-partition_findings.field-0 in
    let pushed : c.push.new.self.items ≡ c.args.found.now.items ++ f ∷ [] = search rules in
    more_found_by c.add_found.result (table_of c.args.table.now) c.args.rows.number c.args.rows.rows.now c.in-Some.later.now c.in-Some.row.now c.args.trees.now c.in-Some-split_first.trees.now c.in-Some-split_first.tree.now
    c.args.sources.now c.in-Some-split_first-2.sources.now c.in-Some-split_first-2.source.now f c.args.found.now.items c.push.new.self.items c.add_found.new.found.items
    c.in-Some.ensures.cases.0 c.in-Some-split_first.ensures.cases.0 c.in-Some-split_first-2.ensures.cases.0 pushed
    c.in_ok-partition_findings.ensures.partition c.in_ok-partition_findings.ensures.findings c.add_found.ensures
