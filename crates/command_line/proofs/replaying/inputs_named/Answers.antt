use Rattle.std.proofs.Common.{◌≤◌, ◌-◌, ℕ, ◌+◌, ap, ◌∙◌, arith}
use Rattle.machine_meaning.specs.ImageReading.{image_at}
use Rattle.command_line.specs.declared.refusal.Refusal.TheVariants.{Write}
use Rattle.command_line.specs.Ends.{EndsInputs}
use Rattle.command_line.specs.States.{state}
use Rattle.command_line.proofs.Answered.{refused_as}
use Rattle.command_line.proofs.Replayed.{failed_by_inputs, kept_inputs}
use Rattle.command_line.proofs.Begun.{given_from, inputs_of_whole}
use Rattle.command_line.specs.Done.{is_ok}
use Rattle.std.specs.Prelude.{Err}
use Rattle.streams.specs.States.{seen}
use Rattle.module.proofs.Watched.{followed_within}
use Rattle.command_line.proofs.replaying.inputs_named.Goals as goal

pub returns-in-Err-clause-ended : goal.returns-in-Err-clause-ended
returns-in-Err-clause-ended g c =
    let out = seen g.O.Sink.taken g.O.Sink.failures g.O.Stream.is_flushed in
    let files = g.F.Files.contents c.args.files.now in
    let given = given_from files (g.F.Files.contents c.read_as.new.files) c.args.wanted.words.image.now c.args.wanted.words.devices.now c.in_ok-image.image.items c.in_ok-devices.devices.items c.as_slice.result.now c.as_slice-2.result.now
    c.in_ok-image.ensures.unchanged c.as_slice.ensures.value c.as_slice-2.ensures.value c.in_ok-image.ensures.held c.in_ok-devices.ensures.held in
    let same = c.in_ok-devices.ensures.unchanged ∙ c.in_ok-image.ensures.unchanged in (
      (
        failed_by_inputs (out c.args.out.now) (out c.inputs_watched.new.sink) (Err c.in-Err.fault) c.in-Err.ensures.write c.in-Err.ensures.quiet,
        same,
        given.given,
        inputs_of_whole given c.args.wanted.words.partition.now c.args.wanted.ticks (g.O.Sink.taken c.args.out.now) (g.O.Sink.taken c.inputs_watched.new.sink) (Err c.in-Err.fault) c.in-Err.ensures.text,
      ),
      c.in_ok-devices.ensures.noted ∙ c.in_ok-image.ensures.noted,
    )

pub returns-in_err-flush-clause-ended : goal.returns-in_err-flush-clause-ended
returns-in_err-flush-clause-ended g c =
    let taken = g.O.Sink.taken in
    let at = state g.F.Files.contents g.F.Files.failed g.F.Files.reads g.O.Sink.taken g.O.Sink.failures g.O.Stream.is_flushed in
    let files = g.F.Files.contents c.args.files.now in
    let given = given_from files (g.F.Files.contents c.read_as.new.files) c.args.wanted.words.image.now c.args.wanted.words.devices.now c.in_ok-image.image.items c.in_ok-devices.devices.items c.as_slice.result.now c.as_slice-2.result.now
    c.in_ok-image.ensures.unchanged c.as_slice.ensures.value c.as_slice-2.ensures.value c.in_ok-image.ensures.held c.in_ok-devices.ensures.held in
    let same = c.in_ok-devices.ensures.unchanged ∙ c.in_ok-image.ensures.unchanged in
    refused_as (EndsInputs c.args.wanted.words.image.now c.args.wanted.words.partition.now c.args.wanted.words.devices.now c.args.wanted.ticks (at c.args.files.now c.args.out.now) (at c.read_as-2.new.files c.flush.new.self)) Write c.from_residual-in_err-flush.result c.from_residual-in_err-flush.ensures (
      (
        c.in_err-flush.ensures.failed ∙ ap (λ (n : ℕ). n + 1) c.in_default.ensures.ok,
        (
          same,
          given.given,
          inputs_of_whole given c.args.wanted.words.partition.now c.args.wanted.ticks (taken c.args.out.now) (taken c.flush.new.self) is_ok (kept_inputs (image_at c.as_slice.result.now) c.args.wanted.words.partition.now c.as_slice-2.result.now c.args.wanted.ticks (taken c.args.out.now) (taken c.inputs_watched.new.sink) (taken c.flush.new.self) c.in_default.ensures.text c.in_err-flush.ensures.kept),
        ),
      ),
      c.in_ok-devices.ensures.noted ∙ c.in_ok-image.ensures.noted,
    )

pub returns-clause-ended : goal.returns-clause-ended
returns-clause-ended g c =
    let taken = g.O.Sink.taken in
    let files = g.F.Files.contents c.args.files.now in
    let given = given_from files (g.F.Files.contents c.read_as.new.files) c.args.wanted.words.image.now c.args.wanted.words.devices.now c.in_ok-image.image.items c.in_ok-devices.devices.items c.as_slice.result.now c.as_slice-2.result.now
    c.in_ok-image.ensures.unchanged c.as_slice.ensures.value c.as_slice-2.ensures.value c.in_ok-image.ensures.held c.in_ok-devices.ensures.held in
    let same = c.in_ok-devices.ensures.unchanged ∙ c.in_ok-image.ensures.unchanged in (
      (
        same,
        given.given,
        inputs_of_whole given c.args.wanted.words.partition.now c.args.wanted.ticks (taken c.args.out.now) (taken c.flush.new.self) is_ok (kept_inputs (image_at c.as_slice.result.now) c.args.wanted.words.partition.now c.as_slice-2.result.now c.args.wanted.ticks (taken c.args.out.now) (taken c.inputs_watched.new.sink) (taken c.flush.new.self) c.in_default.ensures.text c.in_ok-flush.ensures.kept),
      ),
      ((c.in_ok-flush.ensures.quiet ∙ c.in_default.ensures.ok, c.in_ok-flush.ensures.flushed), c.in_ok-devices.ensures.noted ∙ c.in_ok-image.ensures.noted),
    )

pub returns-in-Err-clause-followed : goal.returns-in-Err-clause-followed
returns-in-Err-clause-followed g c =
    let n = c.args.wanted.ticks in
    let within : n - 1 ≤ n = omega arith in
    followed_within n within c.inputs_watched.ensures.followed

pub returns-in_err-flush-clause-followed : goal.returns-in_err-flush-clause-followed
returns-in_err-flush-clause-followed g c =
    let n = c.args.wanted.ticks in
    let within : n - 1 ≤ n = omega arith in
    followed_within n within c.inputs_watched.ensures.followed

pub returns-clause-followed : goal.returns-clause-followed
returns-clause-followed g c =
    let n = c.args.wanted.ticks in
    let within : n - 1 ≤ n = omega arith in
    followed_within n within c.inputs_watched.ensures.followed
