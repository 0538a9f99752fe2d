use Rattle.std.proofs.Common.{map, refl, [], ◌∷◌}
use Rattle.trace_windows.specs.Standings.{without_process}
use Rattle.trace_windows.proofs.Steps.{added, all_added}
use Rattle.trace_windows.proofs.lines.owners.Goals as goal

pub loop-name-preserved : goal.loop-name-preserved
loop-name-preserved c =
    let rest = map without_process in
    added rest rest (without_process c.name-item.result ∷ []) c.args.names.now c.loop-name.name-index c.name-item.result c.loop-name.owners.items c.push.new.self.items _
    c.loop-name-test.true c.name-item.is refl c.in_ok-push.ensures.items c.loop-name.invariant

pub returns : goal.returns
returns c =
    all_added (map without_process) c.args.names.now c.loop-name.name-index c.loop-name.owners.items _ refl c.loop-name-test.false c.loop-name.invariant
