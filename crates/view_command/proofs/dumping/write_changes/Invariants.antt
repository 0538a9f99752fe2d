use Rattle.std.proofs.Common.{◌≡◌}
use Rattle.view_command.proofs.dumping.write_changes.Given as goal

abbrev pub invariant-loop : goal.invariant-loop
invariant-loop g l = g.O.Sink.failures l.out ≡ g.O.Sink.failures l.initial.out
