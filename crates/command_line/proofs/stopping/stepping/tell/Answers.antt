use Rattle.std.proofs.Common.{◌<◌, inr, refl, arith}
use Rattle.command_line.proofs.stopping.stepping.tell.Goals as goal

pub returns-clause-told : goal.returns-clause-told
returns-clause-told g c =
    let above : c.args.told < c.args.made = omega (arith, c.saturating_sub.ensures, c.most_untold-most.ensures, c.if-saturating_sub-most.false) in
    inr (refl, above, c.reached.ensures)
