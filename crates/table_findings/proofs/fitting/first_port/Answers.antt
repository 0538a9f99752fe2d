use Rattle.std.proofs.Common.{None, map}
use Rattle.table_findings.specs.Ends.{first_port, port_at}
use Rattle.window_table.specs.Views.{partition_text}
use Rattle.table_findings.proofs.Turns.{passes}
use Rattle.table_findings.proofs.fitting.first_port.Goals as goal

pub loop-text-preserved : goal.loop-text-preserved
loop-text-preserved c =
    let ps = map partition_text c.args.partitions.now in
    passes (λ ts. first_port ps (map (λ text. text.now) ts)) (λ ts. first_port ps (map (λ text. text.now) ts)) (λ text. port_at ps text.now) None c.args.texts.now c.loop-text.text-index _ _ (λ text ts no. rw (no, first_port))
    c.loop-text-test.true c.in_default.ensures c.loop-text.invariant
