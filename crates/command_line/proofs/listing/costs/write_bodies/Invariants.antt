use Rattle.std.proofs.Common.{drop, flat_map}
use Rattle.command_line.specs.Costs.{cost_line}
use Rattle.command_line.proofs.UnderWay.{IsUnderWay}
use Rattle.command_line.proofs.listing.costs.write_bodies.Given as goal

abbrev pub invariant-loop-body : goal.invariant-loop-body
invariant-loop-body g l =
    IsUnderWay (flat_map (cost_line l.partition) l.bodies) (flat_map (cost_line l.partition) (drop l.body-index l.bodies)) (g.S.Sink.taken l.initial.sink) (g.S.Sink.taken l.sink) (g.S.Sink.failures l.initial.sink) (g.S.Sink.failures l.sink)
