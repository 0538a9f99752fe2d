use Rattle.std.proofs.Common.{drop}
use Rattle.command_line.specs.Costs.{costs_text}
use Rattle.command_line.proofs.UnderWay.{IsUnderWay}
use Rattle.command_line.proofs.listing.costs.write_costs.Given as goal

abbrev pub invariant-loop-partition : goal.invariant-loop-partition
invariant-loop-partition g l =
    IsUnderWay (costs_text l.costs) (costs_text (drop l.partition-index l.costs)) (g.S.Sink.taken l.initial.sink) (g.S.Sink.taken l.sink) (g.S.Sink.failures l.initial.sink) (g.S.Sink.failures l.sink)
