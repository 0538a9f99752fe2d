use Rattle.std.proofs.Common.{map, refl}
use Rattle.table_findings.proofs.Turns.{goes_on}
use Rattle.table_findings.specs.Limits.{one_port, ports_from}
use Rattle.table_findings.specs.Views.{findings_of, row_of}
use Rattle.window_table.specs.Views.{port_text}
use Rattle.table_findings.proofs.bounds.ports.Goals as goal

pub loop-index-preserved : goal.loop-index-preserved
loop-index-preserved c =
    goes_on (λ i ps. ports_from (row_of c.args.partition) i (map port_text ps)) (λ i p. one_port (row_of c.args.partition) i (port_text p)) c.args.ports.now c.loop-index.index _ (findings_of c.loop-index.found.items)
    (findings_of c.port.new.found.items) _ (λ y ys. refl) c.loop-index-test.true c.in_ok-port.ensures c.loop-index.invariant
