use Rattle.std.proofs.Common.{map, refl}
use Rattle.table_findings.specs.Names.{port_names}
use Rattle.window_table.specs.Views.{port_text}
use Rattle.table_findings.proofs.Turns.{one_more}
use Rattle.table_findings.proofs.repeated.port_names.Goals as goal

pub loop-port-preserved : goal.loop-port-preserved
loop-port-preserved c =
    one_more (λ name. name.now) (λ ps. port_names (map port_text ps)) (λ p. p.name) c.args.ports.now c.loop-port.port-index _ c.loop-port.names.items c.push.new.self.items _ (λ p ps. refl) c.loop-port-test.true
    c.in_ok-push.ensures.items c.loop-port.invariant
