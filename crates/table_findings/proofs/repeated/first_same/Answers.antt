use Rattle.std.proofs.Common.{◌+◌, false, map}
use Rattle.module_meaning.specs.TableRules.{same}
use Rattle.table_findings.specs.Names.{first_same}
use Rattle.table_findings.proofs.Turns.{passes}
use Rattle.table_findings.proofs.repeated.first_same.Goals as goal

pub loop-index-preserved : goal.loop-index-preserved
loop-index-preserved c =
    passes (λ ns. first_same c.args.name.now c.loop-index.index (map (λ name. name.now) ns)) (λ ns. first_same c.args.name.now (c.loop-index.index + 1) (map (λ name. name.now) ns)) (λ name. same c.args.name.now name.now) false
    c.args.names.now c.loop-index.index _ _ (λ name ns no. rw no) c.loop-index-test.true c.if-eq.ensures c.loop-index.invariant
