use Rattle.std.proofs.Common.{rules, ◌≡◌, ◌++◌, ◌∙◌, ℤ, ap, of_z, to_z, w64}
use Rattle.table_findings.specs.Limits.{frame_limits}
use Rattle.table_findings.specs.Views.{findings_of}
use Rattle.table_findings.proofs.Steps.{two_add}
use Rattle.table_findings.proofs.bounds.counts.Goals as goal

pub returns : goal.returns
returns c =
    let frame : to_z w64 (of_z w64 c.args.table.now.frame) ≡ c.args.table.now.frame = search rules in
    two_add c.sizes.result (findings_of c.args.found.now.items) _ _ _ _ (c.in_ok-frame_limits.ensures ∙ ap (λ (z : ℤ). findings_of c.args.found.now.items ++ frame_limits z) frame) c.sizes.ensures
