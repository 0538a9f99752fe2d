use Rattle.std.proofs.Common.{◌≡◌, length}
use Rattle.std.specs.Prelude.{find}
use Rattle.apex_types.specs.ServiceShape.{service_word}
use Rattle.apex_types.specs.ServiceShape.{services}
use Rattle.engine_meaning.specs.Digits.{same}
use Rattle.pal_base.proofs.word.service_of.Given as goal

abbrev pub invariant-loop-service : goal.invariant-loop-service
invariant-loop-service l = find (λ s. same (service_word s) l.run) services ≡ find (λ s. same (service_word s) l.run) l.candidates

abbrev pub decreases-loop-service : goal.decreases-loop-service
decreases-loop-service l = length l.candidates
