use Rattle.machine_laws.proofs.Widened.{upgraded_lawful}
use Rattle.image.specs.Views.{image_of}
use Rattle.image.proofs.value.Image.upgraded.Goals as goal

pub invariant_of-result : goal.invariant_of-result
invariant_of-result c = record { lawful = rw (c.costs-costs.ensures) (upgraded_lawful (image_of c.args.self) c.args.self.lawful) }
