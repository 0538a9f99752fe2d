use Rattle.std.proofs.Common.{ℕ, ◌+◌, map, ap, ◌∙◌}
use Rattle.machine_meaning.specs.ImageReading.{image_at}
use Rattle.command_line.specs.declared.refusal.Refusal.TheVariants.{Write}
use Rattle.command_line.specs.Ends.{EndsRun}
use Rattle.command_line.specs.States.{state}
use Rattle.command_line.proofs.Answered.{refused_as}
use Rattle.command_line.proofs.Ran.{kept_traced}
use Rattle.command_line.proofs.Begun.{given_from, run_of_whole}
use Rattle.std.specs.Prelude.{Ok, Err}
use Rattle.command_line.proofs.running.run_named.Goals as goal

pub returns-in-Err-clause-ended : goal.returns-in-Err-clause-ended
returns-in-Err-clause-ended g c =
    let files = g.F.Files.contents c.args.files.now in
    let until = map (λ w. w.now) c.args.wanted.words.until.now in
    let given = given_from files (g.F.Files.contents c.read_as.new.files) c.args.wanted.words.image.now c.args.wanted.words.devices.now c.in_ok-image.image.items c.in_ok-devices.devices.items c.as_slice.result.now c.as_slice-2.result.now
    c.in_ok-image.ensures.unchanged c.as_slice.ensures.value c.as_slice-2.ensures.value c.in_ok-image.ensures.held c.in_ok-devices.ensures.held in
    let same = c.in_ok-devices.ensures.unchanged ∙ c.in_ok-image.ensures.unchanged in
    ((c.in-Err.ensures.failed, same, given.given, run_of_whole given until c.args.wanted.ticks (g.O.Sink.taken c.args.out.now) (g.O.Sink.taken c.trace.new.out) (Err c.in-Err.fault) c.in-Err.ensures.trace), c.in_ok-devices.ensures.noted ∙ c.in_ok-image.ensures.noted)

pub returns-in_err-flush-clause-ended : goal.returns-in_err-flush-clause-ended
returns-in_err-flush-clause-ended g c =
    let taken = g.O.Sink.taken in
    let at = state g.F.Files.contents g.F.Files.failed g.F.Files.reads g.O.Sink.taken g.O.Sink.failures g.O.Stream.is_flushed in
    let files = g.F.Files.contents c.args.files.now in
    let until = map (λ w. w.now) c.args.wanted.words.until.now in
    let given = given_from files (g.F.Files.contents c.read_as.new.files) c.args.wanted.words.image.now c.args.wanted.words.devices.now c.in_ok-image.image.items c.in_ok-devices.devices.items c.as_slice.result.now c.as_slice-2.result.now
    c.in_ok-image.ensures.unchanged c.as_slice.ensures.value c.as_slice-2.ensures.value c.in_ok-image.ensures.held c.in_ok-devices.ensures.held in
    let same = c.in_ok-devices.ensures.unchanged ∙ c.in_ok-image.ensures.unchanged in
    refused_as (EndsRun c.args.wanted.words.image.now c.args.wanted.words.devices.now until c.args.wanted.ticks (at c.args.files.now c.args.out.now) (at c.read_as-2.new.files c.flush.new.self)) Write c.from_residual-in_err-flush.result c.from_residual-in_err-flush.ensures (
      (
        c.in_err-flush.ensures.failed ∙ ap (λ (n : ℕ). n + 1) c.in-Ok.ensures.quiet,
        c.in-Ok.outcome,
        (
          same,
          given.given,
          run_of_whole given until c.args.wanted.ticks (taken c.args.out.now) (taken c.flush.new.self) (Ok c.in-Ok.outcome)
              (kept_traced (image_at c.as_slice.result.now) c.as_slice-2.result.now until c.args.wanted.ticks c.in-Ok.outcome (taken c.args.out.now) (taken c.trace.new.out) (taken c.flush.new.self) c.in-Ok.ensures.trace c.in_err-flush.ensures.kept),
        ),
      ),
      c.in_ok-devices.ensures.noted ∙ c.in_ok-image.ensures.noted,
    )

pub returns-clause-ended : goal.returns-clause-ended
returns-clause-ended g c =
    let taken = g.O.Sink.taken in
    let files = g.F.Files.contents c.args.files.now in
    let until = map (λ w. w.now) c.args.wanted.words.until.now in
    let given = given_from files (g.F.Files.contents c.read_as.new.files) c.args.wanted.words.image.now c.args.wanted.words.devices.now c.in_ok-image.image.items c.in_ok-devices.devices.items c.as_slice.result.now c.as_slice-2.result.now
    c.in_ok-image.ensures.unchanged c.as_slice.ensures.value c.as_slice-2.ensures.value c.in_ok-image.ensures.held c.in_ok-devices.ensures.held in
    let same = c.in_ok-devices.ensures.unchanged ∙ c.in_ok-image.ensures.unchanged in (
      (
        same,
        given.given,
        run_of_whole given until c.args.wanted.ticks (taken c.args.out.now) (taken c.flush.new.self) (Ok c.in-Ok.outcome)
            (kept_traced (image_at c.as_slice.result.now) c.as_slice-2.result.now until c.args.wanted.ticks c.in-Ok.outcome (taken c.args.out.now) (taken c.trace.new.out) (taken c.flush.new.self) c.in-Ok.ensures.trace c.in_ok-flush.ensures.kept),
      ),
      ((c.in_ok-flush.ensures.quiet ∙ c.in-Ok.ensures.quiet, c.in_ok-flush.ensures.flushed), c.in_ok-devices.ensures.noted ∙ c.in_ok-image.ensures.noted),
    )
