use Rattle.std.proofs.Common.{map, subst}
use Rattle.std.specs.Io.KnownBytes.{Appends}
use Rattle.command_line.specs.Loaded.{shown_of}
use Rattle.command_line.specs.declared.refusal.Refusal.TheVariants.{Write}
use Rattle.command_line.specs.Ends.{Ends}
use Rattle.command_line.specs.Orders.{Load}
use Rattle.command_line.specs.States.{state}
use Rattle.command_line.proofs.Answered.{refused_as}
use Rattle.command_line.proofs.loading.load.Goals as goal

pub returns : goal.returns
returns g c =
    let taken = g.O.Sink.taken in
    let written = subst (Appends (taken c.args.out.now) (taken c.write_bytes.new.stream)) c.as_slice.ensures.value c.in_ok-write_bytes.ensures.bytes in
    ((c.in_ok-loaded.ensures.unchanged, shown_of c.in_ok-loaded.loaded, c.in_ok-loaded.ensures.loaded, c.in_ok-text.text.items, c.in_ok-text.ensures, written), (c.in_ok-write_bytes.ensures.flushed, c.in_ok-loaded.ensures.noted))

pub returns-in_err-write_bytes : goal.returns-in_err-write_bytes
returns-in_err-write_bytes g c =
    refused_as (Ends (Load c.args.form c.args.names.table.now (map (λ s. s.now) c.args.names.sources.now)) (state g.F.Files.contents g.F.Files.failed g.F.Files.reads g.O.Sink.taken g.O.Sink.failures g.O.Stream.is_flushed c.args.files.now c.args.out.now) _) Write c.from_residual-in_err-write_bytes.result c.from_residual-in_err-write_bytes.ensures
    ((c.in_err-write_bytes.ensures.failed, c.in_ok-loaded.ensures.unchanged, (shown_of c.in_ok-loaded.loaded, c.in_ok-loaded.ensures.loaded)), c.in_ok-loaded.ensures.noted)
