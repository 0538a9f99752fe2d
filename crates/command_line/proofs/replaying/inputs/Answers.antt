use Rattle.std.proofs.Common.{inl}
use Rattle.std.specs.Str.Parse.{digits_value}
use Rattle.command_words.specs.declared.failure.Failure.TheVariants.{Refused}
use Rattle.command_line.specs.Ends.{Answers}
use Rattle.command_line.specs.Orders.{Inputs}
use Rattle.command_line.specs.States.{state}
use Rattle.command_line.proofs.Answered.{refused_as}
use Rattle.command_line.proofs.Replayed.{inputs_end, inputs_refused_by}
use Rattle.command_line.proofs.Watched.{followed_by}
use Rattle.command_line.proofs.replaying.inputs.Goals as goal

pub returns-in_err-inputs_named-clause-ended : goal.returns-in_err-inputs_named-clause-ended
returns-in_err-inputs_named-clause-ended g c =
    let at = state g.F.Files.contents g.F.Files.failed g.F.Files.reads g.O.Sink.taken g.O.Sink.failures g.O.Stream.is_flushed in
    let before = at c.args.files.now c.args.out.now in
    let after = at c.inputs_named.new.files c.inputs_named.new.out in
    let r = c.in_err-inputs_named.field-0.0 in
    let ended = c.in_err-inputs_named.ensures.ended in
    refused_as (Answers (Inputs c.args.words.image.now c.args.words.partition.now c.args.words.devices.now c.args.words.ticks.now) before after) (Refused r) c.from_residual-in_err-inputs_named.result c.from_residual-in_err-inputs_named.ensures
    ((inl c.in-Some.ensures.0, inputs_refused_by c.args.words.image.now c.args.words.partition.now c.args.words.devices.now c.in-Some.ticks (digits_value 10 c.args.words.ticks.now) before after r c.in-Some.ensures.1 ended.0), ended.1)

pub returns-clause-ended : goal.returns-clause-ended
returns-clause-ended g c =
    let at = state g.F.Files.contents g.F.Files.failed g.F.Files.reads g.O.Sink.taken g.O.Sink.failures g.O.Stream.is_flushed in
    inputs_end c.args.words.image.now c.args.words.partition.now c.args.words.devices.now c.args.words.ticks.now c.in-Some.ticks (at c.args.files.now c.args.out.now) (at c.inputs_named.new.files c.inputs_named.new.out) c.in_ok-inputs_named.field-0 c.in-Some.ensures.0 c.in-Some.ensures.1 c.in_ok-inputs_named.ensures.ended

pub returns-in_err-inputs_named-clause-watched : goal.returns-in_err-inputs_named-clause-watched
returns-in_err-inputs_named-clause-watched g c = followed_by c.in-Some.ticks (digits_value 10 c.args.words.ticks.now) c.in-Some.ensures.1 c.inputs_named.ensures.followed

pub returns-clause-watched : goal.returns-clause-watched
returns-clause-watched g c = followed_by c.in-Some.ticks (digits_value 10 c.args.words.ticks.now) c.in-Some.ensures.1 c.inputs_named.ensures.followed
