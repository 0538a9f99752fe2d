use Rattle.source_findings.specs.Bodies as spec
use Rattle.source_findings.specs.Views.{entries_of, judge_of, names_of, state_of}
use Rattle.pal_base.specs.View.{process_of}
use Rattle.std.proofs.Common.{map}
use Rattle.source_findings.proofs.Turns.{process_turn}
use Rattle.source_findings.proofs.declarations.processes.Goals as goal

pub loop-process-preserved : goal.loop-process-preserved
loop-process-preserved c =
    process_turn (judge_of c.args.judge.now) (names_of c.args.judge.now) c.args.list.now c.loop-process.process-index c.process-item.result
    c.loop-process.before.items c.push.new.self.items c.as_slice.result.now c.process_entry.result c.loop-process.count c.one_more-count.result
    (state_of c.loop-process.walk) (state_of c.whole_process.new.walk)
    (spec.processes (judge_of c.args.judge.now) (entries_of c.args.before.now.items) 0 (map (process_of (names_of c.args.judge.now)) c.args.list.now) (state_of c.args.walk.now))
    c.loop-process-test.true c.process-item.is c.one_more-count.ensures c.as_slice.ensures.value c.in_ok-whole_process.ensures c.process_entry.ensures c.in_ok-push.ensures.items c.loop-process.invariant
