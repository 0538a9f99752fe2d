-- What READ_SAMPLING_MESSAGE does with the message of a port.
use Rattle.std.proofs.Common.{◌≡◌, ℕ, ℤ, pos, List, [], ◌∷◌, length, None, refl, rules}
use Rattle.std.specs.Prelude.{Some, slice_get}
use Rattle.arrayvec.specs.ArrayVec.{ArrayVec}
use Rattle.apex_types.specs.declared.codes.ReturnCode.TheVariants as code
use Rattle.apex_types.specs.declared.identity.At.{At}
use Rattle.apex_types.specs.declared.identity.Runner.{Runner}
use Rattle.apex_types.specs.declared.service.ArrayPlace.{ArrayPlace}
use Rattle.apex_types.specs.declared.service.Service.TheVariants as service
use Rattle.kernel_meaning.specs.PortServices.{reads_sample, becomes_port, validity_number, is_valid}
use Rattle.kernel_meaning.specs.Objects.{Port, Ports}
use Rattle.kernel_meaning.specs.Processes.{Processes}
use Rattle.kernel_meaning.specs.Sharing.{Sharing, both, of_processes, refuses}
use Rattle.kernel_meaning.specs.Step.{after}
use Rattle.ports.specs.Delivering.{delivers}

-- without a message
pub reads_none : (at : At) (b : Sharing Ports) (p : Runner) (array : ArrayPlace) (place : ℕ) (x : Port) (ms : List (ArrayVec ℤ)) → slice_get ms 0 ≡ None → reads_sample at b p array place x ms ≡ refuses b p service.ReadSamplingMessage code.NoAction
reads_none at b p array place x [] e = refl
reads_none at b p array place x (m ∷ ms) e = absurd (search rules)

-- with a message
pub reads_some : (at : At) (s : Processes) (o : Ports) (p : Runner) (array : ArrayPlace) (place : ℕ) (x : Port) (m : ArrayVec ℤ) (ms : List (ArrayVec ℤ)) → slice_get ms 0 ≡ Some m → reads_sample at (both s o) p array place x ms ≡ after (of_processes (both s o) (delivers s p service.ReadSamplingMessage code.NoError (pos (length m.items) ∷ pos (validity_number (is_valid at x)) ∷ []) array m)) (becomes_port (both s o) place (record x { valid = is_valid at x }))
reads_some at s o p array place x m [] e = absurd (search rules)
reads_some at s o p array place x m (n ∷ ms) e = search rules

pub ruleset reading = (reads_none, reads_some)
