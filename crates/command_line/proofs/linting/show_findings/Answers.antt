use Rattle.std.proofs.Common.{rules}
use Rattle.lint.specs.Sentences.{findings_text}
use Rattle.streams.specs.States.{seen}
use Rattle.command_line.proofs.Shown.{shown_to_end}
use Rattle.command_line.proofs.linting.show_findings.Goals as goal

pub returns : goal.returns
returns g c =
    let out = seen g.O.Sink.taken g.O.Sink.failures g.O.Stream.is_flushed in
    shown_to_end (findings_text c.args.found.now) (out c.args.out.now) (out c.write_findings.new.sink) (out c.flush.new.self) c.flush.result (search rules) c.flush.ensures.kept c.flush.ensures.flushed c.flush.ensures.quiet c.flush.ensures.failed
