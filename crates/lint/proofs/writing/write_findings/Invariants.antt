use Rattle.std.proofs.Common.{drop}
use Rattle.lint.specs.Sentences.{findings_text}
use Rattle.lint.proofs.UnderWay.{IsUnderWay}
use Rattle.lint.proofs.writing.write_findings.Given as goal

abbrev pub invariant-loop-partition : goal.invariant-loop-partition
invariant-loop-partition g l =
    IsUnderWay (findings_text l.found) (findings_text (drop l.partition-index l.found)) (g.S.Sink.taken l.initial.sink) (g.S.Sink.taken l.sink) (g.S.Sink.failures l.initial.sink) (g.S.Sink.failures l.sink)
