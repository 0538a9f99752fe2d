use Rattle.std.proofs.Common.{◌≡◌, ◌++◌, OnOk, Some, codes, map, subst}
use Rattle.finding_lines.specs.Nearest.{nearest}
use Rattle.table_findings.specs.Findings.{NoPartition, What}
use Rattle.table_findings.specs.Shape.{one}
use Rattle.table_findings.specs.Subjects.{Subject}
use Rattle.table_findings.specs.Views.{findings_of, subject_of}
use Rattle.table_findings.proofs.unknown.lost.Goals as goal

pub returns : goal.returns
returns c =
    subst (λ (s : Subject). OnOk c.add.result (findings_of c.add.new.found.items ≡ findings_of c.args.found.now.items ++ one s (Some (codes "partition")) (NoPartition c.args.window.partition.now (nearest c.args.window.partition.now (map (λ name. name.now) c.args.names.now))))) c.subject_at.ensures
    (subst (λ (w : What). OnOk c.add.result (findings_of c.add.new.found.items ≡ findings_of c.args.found.now.items ++ one (subject_of c.subject_at.result) (Some (codes "partition")) w)) c.no_partition-what.ensures c.add.ensures)
