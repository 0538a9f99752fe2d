-- The parts of the services on objects.
use Rattle.std.specs.Prelude.{ℕ, ℤ, pos, Bool, true, false, [], ◌∷◌, length, Some}
use Rattle.arrayvec.specs.ArrayVec.{ArrayVec}
use Rattle.apex_types.specs.declared.codes.ReturnCode.TheVariants as code
use Rattle.apex_types.specs.declared.identity.Runner.{Runner}
use Rattle.apex_types.specs.declared.service.ArrayPlace.{ArrayPlace}
use Rattle.apex_types.specs.declared.service.Service.TheVariants as service
use Rattle.kernel_meaning.specs.BufferServices.{admits, list}
use Rattle.kernel_meaning.specs.Objects.{Objects, Buffer}
use Rattle.kernel_meaning.specs.Sharing.{Sharing, answers}
use Rattle.kernel_meaning.specs.Step.{Step, after}
use Rattle.kernel_meaning.specs.Sharing.{fills, first_waiting}

-- empty or occupied
abbrev pub number_of_occupied : Bool → ℕ
number_of_occupied false = 0
number_of_occupied true = 1

-- a message taken out of a buffer goes into the array, and the first sender is admitted
abbrev pub delivers : Sharing Objects → Runner → ArrayPlace → ℕ → Buffer → ArrayVec ℤ → Step (Sharing Objects)
delivers b p array place x m =
    after (answers b p service.ReceiveBuffer code.NoError (pos (length m.items) ∷ []))
    (after (fills b (Some array) m) (admits b place x (first_waiting b.processes (list place))))
