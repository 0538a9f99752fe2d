use Rattle.std.proofs.Common.{◌≡◌}
use Rattle.trace_text.specs.Stream.{left}
use Rattle.view_command.specs.Orders.{number_of}
use Rattle.view_command.proofs.SoFar.{IsRunSoFar}
use Rattle.view_command.proofs.Taken.{WillTake}
use Rattle.view_command.proofs.showing.read_all.Given as goal

abbrev pub invariant-loop : goal.invariant-loop
invariant-loop g l =
    IsRunSoFar (number_of l.fn.ran) (g.R.Read.remaining l.fn.text.reader) l.stream.before.0 l.stream.lines (left g.R.Read.remaining l.stream)
    × (l.stream.lines ≡ l.counter)
    × WillTake (g.T.TakeEvents.takes l.fn.kept) (g.R.Read.remaining l.fn.text.reader) (left g.R.Read.remaining l.stream) l.stream.before.0 l.fn.taker l.taker
