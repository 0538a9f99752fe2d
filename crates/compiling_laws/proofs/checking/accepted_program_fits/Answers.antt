use Rattle.compiling_laws.proofs.WellFormedFits.{well_formed_fits as law}
use Rattle.compiling_laws.proofs.checking.accepted_program_fits.Goals as goal

pub returns : goal.returns
returns c = law
