use Rattle.pal_base.specs.ProgramView as shown
use Rattle.pal_base.specs.WrittenView.{program_of}
use Rattle.pal.proofs.Accepting.{accepted_from}
use Rattle.pal.proofs.verdict.check.Goals as goal

pub invariant_of-result : goal.invariant_of-result
invariant_of-result c =
    let row = c.args.row.now in
    record { accepted = accepted_from row.ports.items row.period (program_of c.args.program) (shown.program_of c.in_ok-resolved.resolved) c.args.program.written c.in_ok-resolved.ensures.verdict }
