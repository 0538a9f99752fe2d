use Rattle.compiling_laws.proofs.Resolving.{resolved_exactly as law}
use Rattle.compiling_laws.proofs.checking.accepted_program_resolves_exactly.Goals as goal

pub returns : goal.returns
returns c = law
