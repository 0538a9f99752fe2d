use Rattle.std.proofs.Common.{◌∷◌, ◌++◌, false, map}
use Rattle.module_meaning.specs.TableRules.{same}
use Rattle.table_findings.specs.Ends.{port_named}
use Rattle.window_table.specs.Views.{port_text}
use Rattle.table_findings.proofs.Turns.{passes}
use Rattle.table_findings.proofs.fitting.port_named.Goals as goal

pub loop-port-preserved : goal.loop-port-preserved
loop-port-preserved c =
    let text = c.args.text.now in
    let name = c.args.partition.now in
    passes (λ ps. port_named name (map port_text ps) text) (λ ps. port_named name (map port_text ps) text) (λ q. same text (name ++ 46 ∷ (port_text q).name)) false c.args.ports.now c.loop-port.port-index _ _
    (λ q qs no. rw no) c.loop-port-test.true c.if-is_port_name.ensures c.loop-port.invariant
