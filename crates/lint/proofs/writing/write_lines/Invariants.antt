use Rattle.std.proofs.Common.{drop, flat_map}
use Rattle.lint.specs.Sentences.{finding_line}
use Rattle.lint.proofs.UnderWay.{IsUnderWay}
use Rattle.lint.proofs.writing.write_lines.Given as goal

abbrev pub invariant-loop-finding : goal.invariant-loop-finding
invariant-loop-finding g l =
    IsUnderWay (flat_map (finding_line l.partition) l.findings) (flat_map (finding_line l.partition) (drop l.finding-index l.findings)) (g.S.Sink.taken l.initial.sink) (g.S.Sink.taken l.sink) (g.S.Sink.failures l.initial.sink) (g.S.Sink.failures l.sink)
