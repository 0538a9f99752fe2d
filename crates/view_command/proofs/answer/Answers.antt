use Rattle.std.proofs.Common.{map}
use Rattle.clap.specs.Faults.{fault_of}
use Rattle.clap.specs.Simple.{subcommand_of}
use Rattle.streams.specs.States.{seen}
use Rattle.view_command.specs.States.{state}
use Rattle.view_command.specs.Words.{view_app}
use Rattle.view_command.proofs.Answered.{answered, can_take_help}
use Rattle.view_command.proofs.answer.Goals as goal

pub tell-requires-clause-out : goal.tell-requires-clause-out
tell-requires-clause-out g c =
    let words = map g.S.AsStr.text c.args.words.now in
    let out = seen g.O.Sink.taken g.O.Sink.failures g.O.Stream.is_flushed in
    can_take_help (fault_of view_app words) (subcommand_of view_app words) (g.F.Sources.texts c.args.sources.now) (state (g.F.Sources.unopened c.args.sources.now) (out c.args.out.now)) (state (g.F.Sources.unopened c.perform-outcome.new.sources) (out c.perform-outcome.new.out))
    c.perform-outcome.result c.perform-outcome.ensures.failed c.requires.out

pub returns : goal.returns
returns g c =
    let words = map g.S.AsStr.text c.args.words.now in
    let out = seen g.O.Sink.taken g.O.Sink.failures g.O.Stream.is_flushed in
    let err = seen g.E.Sink.taken g.E.Sink.failures g.E.Stream.is_flushed in
    answered (fault_of view_app words) (subcommand_of view_app words) (g.F.Sources.texts c.args.sources.now) (state (g.F.Sources.unopened c.args.sources.now) (out c.args.out.now)) (state (g.F.Sources.unopened c.perform-outcome.new.sources) (out c.perform-outcome.new.out))
    (out c.tell.new.out) (err c.args.err.now) (err c.tell.new.err) c.tell.result c.perform-outcome.result
    c.perform-outcome.ensures.command c.perform-outcome.ensures.traces c.perform-outcome.ensures.opened c.perform-outcome.ensures.flushed c.perform-outcome.ensures.failed c.tell.ensures
