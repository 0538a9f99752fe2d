use Rattle.std.proofs.Common.{drop}
use Rattle.command_line.specs.Code.{instruction_lines}
use Rattle.command_line.proofs.UnderWay.{IsUnderWay}
use Rattle.command_line.proofs.listing.code.write_instructions.Given as goal

abbrev pub invariant-loop-index : goal.invariant-loop-index
invariant-loop-index g l =
    IsUnderWay (instruction_lines 0 l.code) (instruction_lines l.index (drop l.index l.code)) (g.S.Sink.taken l.initial.sink) (g.S.Sink.taken l.sink) (g.S.Sink.failures l.initial.sink) (g.S.Sink.failures l.sink)
