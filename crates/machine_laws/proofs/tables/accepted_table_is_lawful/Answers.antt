use Rattle.machine_laws.proofs.AcceptedImage.{accepted_image as law}
use Rattle.machine_laws.proofs.tables.accepted_table_is_lawful.Goals as goal

pub returns : goal.returns
returns c = law
