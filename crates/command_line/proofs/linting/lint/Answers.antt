use Rattle.std.proofs.Common.{map}
use Rattle.command_line.specs.States.{state}
use Rattle.command_line.proofs.Linted.{lint_ends}
use Rattle.command_line.proofs.linting.lint.Goals as goal

pub returns : goal.returns
returns g c =
    let at = state g.F.Files.contents g.F.Files.failed g.F.Files.reads g.O.Sink.taken g.O.Sink.failures g.O.Stream.is_flushed in
    lint_ends c.args.names.table.now (map (λ s. s.now) c.args.names.sources.now) c.in_ok-read.read (at c.args.files.now c.args.out.now) (at c.module_named.new.files c.show_module.new.out) c.show_module.result
    c.in_ok-read.ensures.unchanged c.in_ok-read.ensures.noted c.in_ok-read.ensures.read c.show_module.ensures
