use Rattle.std.proofs.Common.{map, refl}
use Rattle.clap.specs.Faults.{fault_of}
use Rattle.clap.specs.Simple.{subcommand_of}
use Rattle.streams.specs.States.{seen}
use Rattle.command_line.specs.Orders.{asks, order_of}
use Rattle.command_line.specs.Spelled.{spelled}
use Rattle.command_line.specs.States.{state}
use Rattle.command_line.specs.Words.{mb_app}
use Rattle.command_line.proofs.Answered.{answered, can_take_help}
use Rattle.command_line.proofs.answer.Goals as goal

pub tell-requires-clause-out : goal.tell-requires-clause-out
tell-requires-clause-out g c =
    let words = spelled (map g.S.AsStr.text c.args.words.now) in
    let at = state g.F.Files.contents g.F.Files.failed g.F.Files.reads g.O.Sink.taken g.O.Sink.failures g.O.Stream.is_flushed in
    can_take_help (fault_of mb_app words) (order_of (subcommand_of mb_app words)) (at c.args.files.now c.args.out.now) (at c.perform-outcome.new.files c.perform-outcome.new.out) c.perform-outcome.result c.perform-outcome.ensures.ended c.requires.out

pub returns-clause-answer : goal.returns-clause-answer
returns-clause-answer g c =
    let words = spelled (map g.S.AsStr.text c.args.words.now) in
    let at = state g.F.Files.contents g.F.Files.failed g.F.Files.reads g.O.Sink.taken g.O.Sink.failures g.O.Stream.is_flushed in
    let err = seen g.E.Sink.taken g.E.Sink.failures g.E.Stream.is_flushed in
    answered (fault_of mb_app words) (order_of (subcommand_of mb_app words)) (asks (subcommand_of mb_app words)) c.perform-outcome.new.noted.asked c.complete.new.self (at c.args.files.now c.args.out.now) (at c.perform-outcome.new.files c.perform-outcome.new.out)
    (seen g.O.Sink.taken g.O.Sink.failures g.O.Stream.is_flushed c.tell.new.out) (err c.args.err.now) (err c.tell.new.err) c.tell.result c.perform-outcome.result (c.perform-outcome.ensures.asked refl) c.perform-outcome.ensures.ended c.tell.ensures
