use Rattle.streams.specs.States.{seen}
use Rattle.command_line.proofs.Ran.{failed_by_both}
use Rattle.command_line.proofs.running.trace_stored.Goals as goal

pub returns-clause-failed : goal.returns-clause-failed
returns-clause-failed g c =
    let out = seen g.O.Sink.taken g.O.Sink.failures g.O.Stream.is_flushed in
    failed_by_both (out c.args.out.now) (out c.build_and_run.new.sink) c.build_and_run.result c.build_and_run.ensures.write c.build_and_run.ensures.quiet
