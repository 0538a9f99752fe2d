use Rattle.std.proofs.Common.{inl, map}
use Rattle.std.specs.Prelude.{option_map}
use Rattle.std.specs.Str.Parse.{digits_value}
use Rattle.command_words.specs.declared.failure.Failure.TheVariants.{Refused}
use Rattle.command_line.specs.Ends.{Answers}
use Rattle.command_line.specs.Meant.{wanted_in}
use Rattle.command_line.specs.Orders.{ShowState}
use Rattle.command_line.specs.States.{state}
use Rattle.command_line.proofs.Answered.{refused_as}
use Rattle.command_line.proofs.Stated.{state_ends, state_refused_by}
use Rattle.command_line.proofs.stating.show_state.Goals as goal

pub returns-in_err-show_state_named : goal.returns-in_err-show_state_named
returns-in_err-show_state_named g c =
    let at = state g.F.Files.contents g.F.Files.failed g.F.Files.reads g.O.Sink.taken g.O.Sink.failures g.O.Stream.is_flushed in
    let before = at c.args.files.now c.args.out.now in
    let after = at c.show_state_named.new.files c.show_state_named.new.out in
    let words = c.args.words in
    let every = option_map (λ s. s.now) words.every in
    let r = c.in_err-show_state_named.field-0.0 in
    let ended = c.in_err-show_state_named.ensures in
    refused_as (Answers (ShowState words.image.now words.devices.now words.tick.now every (wanted_in words)) before after) (Refused r) c.from_residual-in_err-show_state_named.result c.from_residual-in_err-show_state_named.ensures
    ((inl (c.in-Some.ensures.0, c.in-Some-moments_of.ensures.0), state_refused_by words.image.now words.devices.now (wanted_in words) c.in-Some.ticks (digits_value 10 words.tick.now) before after r c.in-Some.ensures.1 ended.0), ended.1)

pub returns : goal.returns
returns g c =
    let at = state g.F.Files.contents g.F.Files.failed g.F.Files.reads g.O.Sink.taken g.O.Sink.failures g.O.Stream.is_flushed in
    let words = c.args.words in
    let every = option_map (λ s. s.now) words.every in
    state_ends words.image.now words.devices.now words.tick.now every (wanted_in words) c.in-Some.ticks (at c.args.files.now c.args.out.now) (at c.show_state_named.new.files c.show_state_named.new.out) c.in_ok-show_state_named.field-0 (c.in-Some.ensures.0, c.in-Some-moments_of.ensures.0) c.in-Some.ensures.1 c.in_ok-show_state_named.ensures
