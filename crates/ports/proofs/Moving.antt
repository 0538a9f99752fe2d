-- The first message of a port, and the effect of its leaving.
use Rattle.std.proofs.Common.{◌≡◌, ℕ, ℤ, List, [], ◌∷◌, drop, None, refl, rules}
use Rattle.std.specs.Prelude.{Some, slice_get}
use Rattle.arrayvec.specs.ArrayVec.{ArrayVec}
use Rattle.apex_types.specs.declared.event.EventKind.TheVariants as event
use Rattle.kernel_meaning.specs.PortServices.{first_of, leaves_first}
use Rattle.kernel_meaning.specs.Objects.{Port, Ports, put_port}
use Rattle.kernel_meaning.specs.Step.{nothing}

pub first_is : (ms : List (ArrayVec ℤ)) → first_of ms ≡ slice_get ms 0
first_is [] = refl
first_is (m ∷ ms) = refl

-- without a message
pub leaves_none : (o : Ports) (place : ℕ) (x : Port) (ms : List (ArrayVec ℤ)) → slice_get ms 0 ≡ None → leaves_first o place x ms ≡ nothing o
leaves_none o place x [] e = refl
leaves_none o place x (m ∷ ms) e = absurd (search rules)

-- with a message
pub leaves_some : (o : Ports) (place : ℕ) (x : Port) (m : ArrayVec ℤ) (ms : List (ArrayVec ℤ)) → slice_get ms 0 ≡ Some m → leaves_first o place x ms ≡ record { part = put_port o place (record x { messages = drop 1 ms }); lines = event.Move x.row.name m ∷ []; actions = [] }
leaves_some o place x m [] e = absurd (search rules)
leaves_some o place x m (n ∷ ms) e = search rules

pub ruleset moving = (first_is, leaves_none, leaves_some)
