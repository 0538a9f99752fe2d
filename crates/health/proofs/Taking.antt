-- What GET_ERROR_STATUS does with the errors that wait.
use Rattle.std.proofs.Common.{◌≡◌, List, [], ◌∷◌, drop, None, refl, rules}
use Rattle.std.specs.Prelude.{Some, slice_get}
use Rattle.apex_types.specs.declared.codes.ReturnCode.TheVariants as code
use Rattle.apex_types.specs.declared.identity.Runner.{Runner}
use Rattle.apex_types.specs.declared.process.WaitingError.{WaitingError}
use Rattle.apex_types.specs.declared.service.ArrayPlace.{ArrayPlace}
use Rattle.apex_types.specs.declared.service.Service.TheVariants as service
use Rattle.kernel_meaning.specs.Kernel.{Errors}
use Rattle.kernel_meaning.specs.HealthServices.{takes_error, error_status}
use Rattle.kernel_meaning.specs.Sharing.{Sharing, answers, becomes, refuses}
use Rattle.kernel_meaning.specs.Step.{after}
use Rattle.kernel_meaning.specs.Sharing.{fills}

-- no error waits
pub takes_none : (b : Sharing Errors) (p : Runner) (array : ArrayPlace) (es : List WaitingError) → slice_get es 0 ≡ None → takes_error b p array es ≡ refuses b p service.GetErrorStatus code.NoAction
takes_none b p array [] h = refl
takes_none b p array (e ∷ es) h = absurd (search rules)

-- an error waits
pub takes_some : (b : Sharing Errors) (p : Runner) (array : ArrayPlace) (e : WaitingError) (es : List WaitingError) → slice_get es 0 ≡ Some e → takes_error b p array es ≡ after (answers b p service.GetErrorStatus code.NoError (error_status e)) (after (fills b (Some array) e.words) (becomes b (record b.shared { waiting = drop 1 es })))
takes_some b p array e [] h = absurd (search rules)
takes_some b p array e (f ∷ es) h = search rules

pub ruleset taking = (takes_none, takes_some)
