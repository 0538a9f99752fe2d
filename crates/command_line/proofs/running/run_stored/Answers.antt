use Rattle.std.proofs.Common.{ℕ, ◌+◌, ap, refl, ◌∙◌}
use Rattle.command_line.specs.Ends.{Ends}
use Rattle.command_line.specs.Orders.{First}
use Rattle.command_line.specs.Refusals.{refusal_of_both}
use Rattle.command_line.specs.States.{state_of}
use Rattle.command_line.specs.declared.refusal.Refusal.TheVariants.{Write}
use Rattle.streams.specs.States.{seen}
use Rattle.command_line.proofs.Answered.{refused_as}
use Rattle.command_line.proofs.Ran.{first_refused, kept_stored}
use Rattle.command_line.proofs.running.run_stored.Goals as goal

pub returns-in_err-trace_stored : goal.returns-in_err-trace_stored
returns-in_err-trace_stored g c = λ files failed reads.
    let out = seen g.O.Sink.taken g.O.Sink.failures g.O.Stream.is_flushed in
    let f = c.in_err-trace_stored.field-0.0 in
    refused_as (Ends First (state_of files failed reads (out c.args.out.now)) (state_of files failed reads (out c.trace_stored.new.out))) (refusal_of_both f) c.from_residual.result c.from_residual.ensures
    (first_refused files failed reads (out c.args.out.now) (out c.trace_stored.new.out) f c.in_err-trace_stored.ensures.failed c.in_err-trace_stored.ensures.trace)

pub returns-in_err-flush : goal.returns-in_err-flush
returns-in_err-flush g c = λ files failed reads.
    let taken = g.O.Sink.taken in
    let out = seen g.O.Sink.taken g.O.Sink.failures g.O.Stream.is_flushed in
    refused_as (Ends First (state_of files failed reads (out c.args.out.now)) (state_of files failed reads (out c.flush.new.self))) Write c.from_residual-in_err-flush.result c.from_residual-in_err-flush.ensures (
      (
        refl,
        (
          c.in_err-flush.ensures.failed ∙ ap (λ (n : ℕ). n + 1) c.in_ok-trace_stored.ensures.quiet,
          kept_stored (taken c.args.out.now) (taken c.trace_stored.new.out) (taken c.flush.new.self) c.in_ok-trace_stored.ensures.trace c.in_err-flush.ensures.kept,
        ),
      ),
      refl,
    )

pub returns : goal.returns
returns g c = λ files failed reads.
    let taken = g.O.Sink.taken in (
      (refl, kept_stored (taken c.args.out.now) (taken c.trace_stored.new.out) (taken c.flush.new.self) c.in_ok-trace_stored.ensures.trace c.in_ok-flush.ensures.kept),
      ((c.in_ok-flush.ensures.quiet ∙ c.in_ok-trace_stored.ensures.quiet, c.in_ok-flush.ensures.flushed), refl),
    )
