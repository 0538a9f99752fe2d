use Rattle.source_findings.proofs.Explained.{place_found}
use Rattle.source_findings.proofs.explain.unfit_place.Goals as goal

pub returns-in-Ok : goal.returns-in-Ok
returns-in-Ok c = place_found c.args.text.now c.in-Ok.place c.in-Ok.ensures
