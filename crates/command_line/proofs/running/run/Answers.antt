use Rattle.std.proofs.Common.{inl, map}
use Rattle.std.specs.Str.Parse.{digits_value}
use Rattle.command_words.specs.declared.failure.Failure.TheVariants.{Refused}
use Rattle.command_line.specs.Ends.{Answers}
use Rattle.command_line.specs.Orders.{Run}
use Rattle.command_line.specs.States.{state}
use Rattle.command_line.proofs.Answered.{refused_as}
use Rattle.command_line.proofs.Ran.{run_done_by, run_done_with, run_refused_by}
use Rattle.command_line.proofs.Watched.{followed_by}
use Rattle.command_line.proofs.running.run.Goals as goal

pub returns-in_err-outcome-clause-ended : goal.returns-in_err-outcome-clause-ended
returns-in_err-outcome-clause-ended g c =
    let at = state g.F.Files.contents g.F.Files.failed g.F.Files.reads g.O.Sink.taken g.O.Sink.failures g.O.Stream.is_flushed in
    let before = at c.args.files.now c.args.out.now in
    let after = at c.run_named.new.files c.run_named.new.out in
    let until = map (λ w. w.now) c.args.words.until.now in
    let r = c.in_err-outcome.field-0.0 in
    let ended = c.in_err-outcome.ensures.ended in
    refused_as (Answers (Run c.args.words.image.now c.args.words.devices.now c.args.words.ticks.now until) before after) (Refused r) c.from_residual-in_err-outcome.result c.from_residual-in_err-outcome.ensures
    ((inl c.in-Some.ensures.0, run_refused_by c.args.words.image.now c.args.words.devices.now until c.in-Some.ticks (digits_value 10 c.args.words.ticks.now) before after r c.in-Some.ensures.1 ended.0), ended.1)

pub returns-clause-ended : goal.returns-clause-ended
returns-clause-ended g c =
    let at = state g.F.Files.contents g.F.Files.failed g.F.Files.reads g.O.Sink.taken g.O.Sink.failures g.O.Stream.is_flushed in
    let before = at c.args.files.now c.args.out.now in
    let after = at c.run_named.new.files c.run_named.new.out in
    let until = map (λ w. w.now) c.args.words.until.now in
    let ended = c.in_ok-outcome.ensures.ended in (
      run_done_with c.args.words.image.now c.args.words.devices.now c.args.words.ticks.now until c.in_ok-outcome.outcome before after c.in-Some.ensures.0
          (run_done_by c.args.words.image.now c.args.words.devices.now until c.in-Some.ticks (digits_value 10 c.args.words.ticks.now) c.in_ok-outcome.outcome before after c.in-Some.ensures.1 ended.0),
      ended.1,
    )

pub returns-in_err-outcome-clause-watched : goal.returns-in_err-outcome-clause-watched
returns-in_err-outcome-clause-watched g c = followed_by c.in-Some.ticks (digits_value 10 c.args.words.ticks.now) c.in-Some.ensures.1 c.run_named.ensures.followed

pub returns-clause-watched : goal.returns-clause-watched
returns-clause-watched g c = followed_by c.in-Some.ticks (digits_value 10 c.args.words.ticks.now) c.in-Some.ensures.1 c.run_named.ensures.followed
