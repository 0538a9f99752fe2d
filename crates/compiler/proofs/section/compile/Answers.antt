use Rattle.std.proofs.Common.{rules, ◌≤◌}
use Rattle.apex_types.specs.declared.limits.TheConstants.{MOST_INSTRUCTIONS}
use Rattle.pal_meaning.specs.Program as cost
use Rattle.pal_base.specs.ProgramView.{program_of}
use Rattle.compiler.proofs.Accepted.{accepted_fits}
use Rattle.compiler.proofs.section.compile.Goals as goal

pub returns-in-Ok-clause-means : goal.returns-in-Ok-clause-means
returns-in-Ok-clause-means c =
    let program = c.args.checked.now.program in
    let small : cost.size_of (program_of program) ≤ MOST_INSTRUCTIONS = search rules in
    c.in-Ok.ensures.means (accepted_fits program c.args.checked.now.accepted small)
