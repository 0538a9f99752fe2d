use Rattle.std.proofs.Common.{map}
use Rattle.clap.specs.Simple.{subcommand_of}
use Rattle.command_line.specs.Orders.{order_of}
use Rattle.command_line.specs.Spelled.{spelled}
use Rattle.command_line.specs.States.{state}
use Rattle.command_line.specs.Words.{mb_app}
use Rattle.command_line.proofs.Answered.{memory_ended}
use Rattle.command_line.proofs.commands.perform.Goals as goal

pub returns-in-Err-clause-ended : goal.returns-in-Err-clause-ended
returns-in-Err-clause-ended g c =
    memory_ended (order_of (subcommand_of mb_app (spelled (map g.S.AsStr.text c.args.words.now))))
    (state g.F.Files.contents g.F.Files.failed g.F.Files.reads g.O.Sink.taken g.O.Sink.failures g.O.Stream.is_flushed c.args.files.now c.args.out.now)
