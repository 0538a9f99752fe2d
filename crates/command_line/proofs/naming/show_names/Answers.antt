use Rattle.std.proofs.Common.{rules, inl, map}
use Rattle.std.specs.Str.Parse.{digits_value}
use Rattle.command_words.specs.declared.failure.Failure.TheVariants.{Refused}
use Rattle.command_line.specs.Done.{AreOnlyLast}
use Rattle.command_line.specs.Ends.{Answers}
use Rattle.command_line.specs.Meant.{wanted_in}
use Rattle.command_line.specs.Orders.{ShowNames}
use Rattle.command_line.specs.States.{state}
use Rattle.command_line.proofs.Answered.{refused_as}
use Rattle.command_line.proofs.NamedStates.{named_refused_by, names_end}
use Rattle.command_line.proofs.naming.show_names.Goals as goal

pub returns-in_err-show_names_at : goal.returns-in_err-show_names_at
returns-in_err-show_names_at g c =
    let at = state g.F.Files.contents g.F.Files.failed g.F.Files.reads g.O.Sink.taken g.O.Sink.failures g.O.Stream.is_flushed in
    let before = at c.args.files.now c.args.out.now in
    let after = at c.show_names_at.new.files c.show_names_at.new.out in
    let words = c.args.words.state in
    let last : AreOnlyLast (wanted_in words).moments = search rules in
    let sources = map (λ s. s.now) c.args.words.sources.now in
    let r = c.in_err-show_names_at.field-0.0 in
    let ended = c.in_err-show_names_at.ensures in
    refused_as (Answers (ShowNames words.image.now sources words.devices.now words.tick.now (wanted_in words)) before after) (Refused r) c.from_residual-in_err-show_names_at.result c.from_residual-in_err-show_names_at.ensures
    ((inl (c.in-Some.ensures.0, last), named_refused_by words.image.now sources words.devices.now (wanted_in words) c.in-Some.ticks (digits_value 10 words.tick.now) before after r c.in-Some.ensures.1 ended.0), ended.1)

pub returns : goal.returns
returns g c =
    let at = state g.F.Files.contents g.F.Files.failed g.F.Files.reads g.O.Sink.taken g.O.Sink.failures g.O.Stream.is_flushed in
    let words = c.args.words.state in
    let last : AreOnlyLast (wanted_in words).moments = search rules in
    names_end words.image.now (map (λ s. s.now) c.args.words.sources.now) words.devices.now words.tick.now (wanted_in words) c.in-Some.ticks (at c.args.files.now c.args.out.now) (at c.show_names_at.new.files c.show_names_at.new.out) c.in_ok-show_names_at.field-0 (c.in-Some.ensures.0, last) c.in-Some.ensures.1 c.in_ok-show_names_at.ensures
