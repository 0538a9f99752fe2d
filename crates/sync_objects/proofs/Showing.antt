-- Whether a blackboard displays a message.
use Rattle.std.proofs.Common.{◌≡◌, refl}
use Rattle.std.specs.Prelude.{ℤ, Option, Some, None, is_some}
use Rattle.arrayvec.specs.ArrayVec.{ArrayVec}
use Rattle.kernel_meaning.specs.BlackboardServices.{indicator}
use Rattle.sync_objects.specs.Both.{number_of_occupied}

pub indicator_of : (shown : Option (ArrayVec ℤ)) → indicator shown ≡ number_of_occupied (is_some shown)
indicator_of None = refl
indicator_of (Some m) = refl

pub ruleset showing = (indicator_of)
