-- A step on an error, then the action that remains to be done.
use Rattle.std.proofs.Common.{◌≡◌, List, ◌++◌, Option, ap, subst, ◌∙◌, append_assoc}
use Rattle.apex_types.specs.declared.codes.ErrorKind.{ErrorKind}
use Rattle.apex_types.specs.declared.codes.PartitionAction.{PartitionAction}
use Rattle.apex_types.specs.declared.event.EventKind.{EventKind}
use Rattle.apex_types.specs.declared.identity.Runner.{Runner}
use Rattle.apex_types.specs.Output.{Output}
use Rattle.apex_types.specs.Runners.{Action}
use Rattle.kernel_meaning.specs.HealthServices.{acts_on_error, then_acts}
use Rattle.kernel_meaning.specs.Kernel.{Kernel}
use Rattle.kernel_meaning.specs.Step.{Step}
use Rattle.kernel_meaning.specs.Made.{IsMade}

pub then_acted : (k : Kernel) (p : Runner) (e : ErrorKind) (s : Step (Option PartitionAction)) (left : Option PartitionAction) (next : Kernel) (a b c : Output)
    → IsMade s left a b → IsMade (acts_on_error k p e left) next b c → IsMade (then_acts k p e s) next a c
then_acted k p e s left next a b c h i =
    let then : Step Kernel = acts_on_error k p e s.part in
    let same : acts_on_error k p e left ≡ then = ap (λ (o : Option PartitionAction). acts_on_error k p e o) h.0 in
    let j : IsMade then next b c = subst (λ (t : Step Kernel). IsMade t next b c) same i in (
      j.0,
      j.1 ∙ ap (λ (xs : List EventKind). xs ++ then.lines) h.1 ∙ append_assoc a.lines s.lines then.lines,
      j.2 ∙ ap (λ (xs : List Action). xs ++ then.actions) h.2 ∙ append_assoc a.actions s.actions then.actions,
    )
