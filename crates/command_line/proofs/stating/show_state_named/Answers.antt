use Rattle.std.proofs.Common.{ℕ, ◌+◌, ap, ◌∙◌}
use Rattle.machine_meaning.specs.ImageReading.{image_at}
use Rattle.command_line.specs.declared.refusal.Refusal.TheVariants.{Write}
use Rattle.command_line.specs.Ends.{EndsState}
use Rattle.command_line.specs.Meant.{wanted_in}
use Rattle.command_line.specs.Outcomes.{is_remarkable}
use Rattle.command_line.specs.States.{state}
use Rattle.command_line.proofs.Answered.{refused_as}
use Rattle.command_line.proofs.Ran.{failed_by}
use Rattle.command_line.proofs.Stated.{is_of_found, kept_state, of_found, wanted_so}
use Rattle.command_line.proofs.Begun.{given_from, state_of_whole}
use Rattle.module.specs.Stating.{moments_in}
use Rattle.std.specs.Prelude.{Ok, Err, not}
use Rattle.streams.specs.States.{seen}
use Rattle.command_line.proofs.stating.show_state_named.Goals as goal

pub returns-in-Err : goal.returns-in-Err
returns-in-Err g c =
    let out = seen g.O.Sink.taken g.O.Sink.failures g.O.Stream.is_flushed in
    let taken = g.O.Sink.taken in
    let files = g.F.Files.contents c.args.files.now in
    let words = c.args.wanted.words in
    let given = given_from files (g.F.Files.contents c.read_as.new.files) words.image.now words.devices.now c.in_ok-image.image.items c.in_ok-devices.devices.items c.as_slice.result.now c.as_slice-2.result.now
    c.in_ok-image.ensures.unchanged c.as_slice.ensures.value c.as_slice-2.ensures.value c.in_ok-image.ensures.held c.in_ok-devices.ensures.held in
    let same = c.in_ok-devices.ensures.unchanged ∙ c.in_ok-image.ensures.unchanged in (
      (
        failed_by (out c.args.out.now) (out c.state.new.sink) (Err c.in-Err.fault) c.in-Err.ensures.write c.in-Err.ensures.quiet,
        same,
        given.given,
        state_of_whole given (wanted_in words) c.args.wanted.ticks (taken c.args.out.now) (taken c.state.new.sink) (Err c.in-Err.fault)
            (wanted_so (image_at c.as_slice.result.now) c.as_slice-2.result.now c.args.wanted.ticks (wanted_in words) (moments_in c.args.moments) (taken c.args.out.now) (taken c.state.new.sink) (Err c.in-Err.fault) c.requires.meant c.in-Err.ensures.text),
      ),
      c.in_ok-devices.ensures.noted ∙ c.in_ok-image.ensures.noted,
    )

pub returns-in_err-flush : goal.returns-in_err-flush
returns-in_err-flush g c =
    let taken = g.O.Sink.taken in
    let at = state g.F.Files.contents g.F.Files.failed g.F.Files.reads g.O.Sink.taken g.O.Sink.failures g.O.Stream.is_flushed in
    let files = g.F.Files.contents c.args.files.now in
    let words = c.args.wanted.words in
    let n = c.args.wanted.ticks in
    let found = c.in-Ok.found in
    let read = image_at c.as_slice.result.now in
    let text = c.as_slice-2.result.now in
    let given = given_from files (g.F.Files.contents c.read_as.new.files) words.image.now words.devices.now c.in_ok-image.image.items c.in_ok-devices.devices.items c.as_slice.result.now c.as_slice-2.result.now
    c.in_ok-image.ensures.unchanged c.as_slice.ensures.value c.as_slice-2.ensures.value c.in_ok-image.ensures.held c.in_ok-devices.ensures.held in
    let same = c.in_ok-devices.ensures.unchanged ∙ c.in_ok-image.ensures.unchanged in
    let outcome = of_found found in
    let written = wanted_so read text n (wanted_in words) (moments_in c.args.moments) (taken c.args.out.now) (taken c.state.new.sink) (Ok found) c.requires.meant c.in-Ok.ensures.text in
    refused_as (EndsState words.image.now words.devices.now (wanted_in words) n (at c.args.files.now c.args.out.now) (at c.read_as-2.new.files c.flush.new.self)) Write c.from_residual-in_err-flush.result c.from_residual-in_err-flush.ensures (
      (
        c.in_err-flush.ensures.failed ∙ ap (λ (n : ℕ). n + 1) c.in-Ok.ensures.ok,
        outcome,
        (
          same,
          given.given,
          state_of_whole given (wanted_in words) n (taken c.args.out.now) (taken c.flush.new.self) (Ok (not (is_remarkable outcome)))
              (kept_state read text n (wanted_in words) found outcome (taken c.args.out.now) (taken c.state.new.sink) (taken c.flush.new.self) (is_of_found found) written c.in_err-flush.ensures.kept),
        ),
      ),
      c.in_ok-devices.ensures.noted ∙ c.in_ok-image.ensures.noted,
    )

pub returns : goal.returns
returns g c =
    let taken = g.O.Sink.taken in
    let files = g.F.Files.contents c.args.files.now in
    let words = c.args.wanted.words in
    let n = c.args.wanted.ticks in
    let found = c.in-Ok.found in
    let read = image_at c.as_slice.result.now in
    let text = c.as_slice-2.result.now in
    let given = given_from files (g.F.Files.contents c.read_as.new.files) words.image.now words.devices.now c.in_ok-image.image.items c.in_ok-devices.devices.items c.as_slice.result.now c.as_slice-2.result.now
    c.in_ok-image.ensures.unchanged c.as_slice.ensures.value c.as_slice-2.ensures.value c.in_ok-image.ensures.held c.in_ok-devices.ensures.held in
    let same = c.in_ok-devices.ensures.unchanged ∙ c.in_ok-image.ensures.unchanged in
    let written = wanted_so read text n (wanted_in words) (moments_in c.args.moments) (taken c.args.out.now) (taken c.state.new.sink) (Ok found) c.requires.meant c.in-Ok.ensures.text in (
      (
        same,
        given.given,
        state_of_whole given (wanted_in words) n (taken c.args.out.now) (taken c.flush.new.self) (Ok (not (is_remarkable c.of_wait.result)))
            (kept_state read text n (wanted_in words) found c.of_wait.result (taken c.args.out.now) (taken c.state.new.sink) (taken c.flush.new.self) c.of_wait.ensures written c.in_ok-flush.ensures.kept),
      ),
      ((c.in_ok-flush.ensures.quiet ∙ c.in-Ok.ensures.ok, c.in_ok-flush.ensures.flushed), c.in_ok-devices.ensures.noted ∙ c.in_ok-image.ensures.noted),
    )
