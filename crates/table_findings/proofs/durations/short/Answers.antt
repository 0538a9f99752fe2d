use Rattle.std.proofs.Common.{◌≡◌, ◌++◌, OnOk, Some, codes, subst}
use Rattle.std.specs.Prelude.{nat_abs}
use Rattle.table_findings.specs.Findings.{Short, What}
use Rattle.table_findings.specs.Shape.{one}
use Rattle.table_findings.specs.Subjects.{Subject}
use Rattle.table_findings.specs.Views.{findings_of, subject_of}
use Rattle.table_findings.proofs.durations.short.Goals as goal

pub returns : goal.returns
returns c =
    subst (λ (s : Subject). OnOk c.add.result (findings_of c.add.new.found.items ≡ findings_of c.args.found.now.items ++ one s (Some (codes "duration")) (Short c.args.from c.args.offered (nat_abs c.args.partition.now.duration)))) c.row_subject.ensures
    (subst (λ (w : What). OnOk c.add.result (findings_of c.add.new.found.items ≡ findings_of c.args.found.now.items ++ one (subject_of c.row_subject.result) (Some (codes "duration")) w)) c.offers_less-what.ensures c.add.ensures)
