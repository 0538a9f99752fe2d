use Rattle.compiling_laws.proofs.WellFormedSection.{accepted_section as law}
use Rattle.compiling_laws.proofs.checking.accepted_section_is_lawful.Goals as goal

pub returns : goal.returns
returns c = law
