use Rattle.std.proofs.Common.{rules, ◌≡◌, ◌++◌, ◌∙◌, ℤ, ap, drop, map, of_z, refl, to_z, w64}
use Rattle.table_findings.specs.Limits.{partitions_from}
use Rattle.table_findings.specs.Views.{findings_of}
use Rattle.table_findings.proofs.Steps.{all_seen, done}
use Rattle.window_table.specs.Views.{partition_text}
use Rattle.table_findings.proofs.bounds.partitions.Goals as goal

pub returns : goal.returns
returns c =
    let back : to_z w64 (of_z w64 c.args.frame) ≡ c.args.frame = search rules in
    done (λ ps. partitions_from (to_z w64 (of_z w64 c.args.frame)) c.loop-index.index (map partition_text ps)) (drop c.loop-index.index c.args.partitions.now) _ _ refl c.loop-index.invariant
    (all_seen c.args.partitions.now c.loop-index.index (search rules))
    ∙ ap (λ (z : ℤ). findings_of c.args.found.now.items ++ partitions_from z 0 (map partition_text c.args.partitions.now)) back
