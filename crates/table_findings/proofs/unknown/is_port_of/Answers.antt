use Rattle.std.proofs.Common.{◌∷◌, ◌++◌, false, map, sym}
use Rattle.std.specs.List.{list_any}
use Rattle.module_meaning.specs.TableRules.{same}
use Rattle.window_table.specs.Views.{port_text}
use Rattle.table_findings.proofs.Turns.{passes}
use Rattle.table_findings.proofs.unknown.is_port_of.Goals as goal

pub loop-port-preserved : goal.loop-port-preserved
loop-port-preserved c =
    let text = c.args.text.now in
    let name = c.args.partition.now in
    sym (passes (λ ps. list_any (λ q. same text (name ++ 46 ∷ q.name)) (map port_text ps)) (λ ps. list_any (λ q. same text (name ++ 46 ∷ q.name)) (map port_text ps)) (λ q. same text (name ++ 46 ∷ (port_text q).name)) false
    c.args.ports.now c.loop-port.port-index _ _ (λ q qs no. rw no) c.loop-port-test.true c.if-is_port_name.ensures (sym c.loop-port.invariant))
