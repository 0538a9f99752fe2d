use Rattle.std.proofs.Common.{Err, ap, ◌∙◌}
use Rattle.pal_base.specs.Seen.{seen}
use Rattle.pal_base.proofs.Refusals.{whole_so, misfit_so}
use Rattle.pal_base.proofs.source.Source.misfit.Goals as goal
use Rattle.pal_base.proofs.source.Source.misfit.Goals.{in-Ok, in-Err-Refused, in-Err-Memory}

pub returns : goal.returns
returns c = elim c.match-program.branch [
  | in-Ok w ↦ rw w.result-is (whole_so _ c.program.result _ (seen c.args.self.now c.args.tokens.now) w.in-Ok.is c.program.ensures.exact)
  | in-Err-Refused w ↦ rw w.result-is (misfit_so _ c.program.result _ (seen c.args.self.now c.args.tokens.now) (w.in-Err-Refused.is ∙ ap Err w.in-Err-Refused.field-0-is) c.program.ensures.exact)
  | in-Err-Memory w ↦ rw w.result-is tt
]
