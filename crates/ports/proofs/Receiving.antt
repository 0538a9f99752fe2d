-- What RECEIVE_QUEUING_MESSAGE does with the messages of a port.
use Rattle.std.proofs.Common.{◌≡◌, ℕ, ℤ, pos, false, List, [], ◌∷◌, length, drop, None, refl, rules}
use Rattle.std.specs.Prelude.{Some, slice_get}
use Rattle.arrayvec.specs.ArrayVec.{ArrayVec}
use Rattle.apex_types.specs.declared.identity.At.{At}
use Rattle.apex_types.specs.declared.identity.Runner.{Runner}
use Rattle.apex_types.specs.declared.service.ArrayPlace.{ArrayPlace}
use Rattle.apex_types.specs.declared.service.Service.TheVariants as service
use Rattle.kernel_meaning.specs.PortServices.{receives, receiver, code_of_receive, becomes_port}
use Rattle.kernel_meaning.specs.Objects.{Port, Ports}
use Rattle.kernel_meaning.specs.Processes.{Processes}
use Rattle.kernel_meaning.specs.Sharing.{Sharing, both, of_processes}
use Rattle.kernel_meaning.specs.Step.{after, message}
use Rattle.kernel_meaning.specs.Sharing.{blocks}
use Rattle.ports.specs.Delivering.{delivers}

-- without a message
pub receives_none : (at : At) (b : Sharing Ports) (p : Runner) (array : ArrayPlace) (limit : ℤ) (place : ℕ) (x : Port) (ms : List (ArrayVec ℤ)) → slice_get ms 0 ≡ None → receives at b p array limit place x ms ≡ of_processes b (blocks at b.processes p limit (receiver place x array) (message []))
receives_none at b p array limit place x [] e = refl
receives_none at b p array limit place x (m ∷ ms) e = absurd (search rules)

-- with a message
pub receives_some : (at : At) (s : Processes) (o : Ports) (p : Runner) (array : ArrayPlace) (limit : ℤ) (place : ℕ) (x : Port) (m : ArrayVec ℤ) (ms : List (ArrayVec ℤ)) → slice_get ms 0 ≡ Some m → receives at (both s o) p array limit place x ms ≡ after (of_processes (both s o) (delivers s p service.ReceiveQueuingMessage (code_of_receive x.overflowed) (pos (length m.items) ∷ []) array m)) (becomes_port (both s o) place (record x { messages = drop 1 ms; overflowed = false }))
receives_some at s o p array limit place x m [] e = absurd (search rules)
receives_some at s o p array limit place x m (n ∷ ms) e = search rules

pub ruleset receiving = (receives_none, receives_some)
