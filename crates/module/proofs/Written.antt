-- The text written by one step of the module after another.
use Rattle.module.proofs.Prelude.{Option, refl, slice_get-map, At, Course, Stepped, then_runs, nothing_sent, Sent, IsMade, IsCourse}
use Rattle.module_meaning.specs.Module as meaning
use Rattle.lone_partition.proofs.Written.{then_runs_made}

pub ruleset nothing = (nothing_sent)

-- a step, then one that may start the module again, or shut it down
pub begun_made : {S : Type 0} {a : Stepped S} {old mid new : Sent} (at : At) (rest : At → S → Course S) (between : S) {answer : Option At} {next : S}
    → IsMade a between old mid → IsCourse (rest at between) answer next mid new → IsCourse (then_runs (meaning.goes_on at a) rest) answer next old new
begun_made at rest between h k = then_runs_made rest at between refl refl h k

pub ruleset channels = (slice_get-map)
