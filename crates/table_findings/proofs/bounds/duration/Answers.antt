use Rattle.std.proofs.Common.{rules, ◌≡◌, ◌++◌, ℤ, OnOk, codes, of_z, subst, to_z, w64}
use Rattle.table_findings.specs.Limits.{outside}
use Rattle.table_findings.specs.Views.{findings_of, subject_of}
use Rattle.table_findings.proofs.bounds.duration.Goals as goal

pub returns : goal.returns
returns c =
    let high : to_z w64 (of_z w64 c.args.partition.now.period) ≡ c.args.partition.now.period = search rules in
    let number : to_z w64 (of_z w64 c.args.partition.now.duration) ≡ c.args.partition.now.duration = search rules in
    subst (λ (z : ℤ). OnOk c.outside.result (findings_of c.outside.new.found.items ≡ findings_of c.args.found.now.items ++ outside (subject_of c.args.subject) (codes "duration") 0 z c.args.partition.now.duration)) high
    (subst (λ (z : ℤ). OnOk c.outside.result (findings_of c.outside.new.found.items ≡ findings_of c.args.found.now.items ++ outside (subject_of c.args.subject) (codes "duration") 0 (to_z w64 (of_z w64 c.args.partition.now.period)) z)) number c.outside.ensures)
