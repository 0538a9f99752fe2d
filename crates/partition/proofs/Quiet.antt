-- A partition in which nothing is due and the choice stays.
use Rattle.std.proofs.Common.{◌≡◌, ap, ◌∙◌}
use Rattle.apex_types.specs.declared.codes.ErrorKind.TheVariants.{DeadlineMissed}
use Rattle.apex_types.specs.declared.identity.At.{At}
use Rattle.kernel_meaning.specs.Times.{Treated}
use Rattle.kernel_meaning.specs.HealthServices.{action_of, free_places, starts_handler}
use Rattle.kernel_meaning.specs.Kernel.{Kernel, of_processes, with_errors}
use Rattle.kernel_meaning.specs.Partition.{chooses, chooses_with_handler}
use Rattle.kernel_meaning.specs.Step.{nothing, after}
use Rattle.kernel_laws.specs.Quiet.{HasNothingDue}
use Rattle.process_table_base.specs.Timed.{AreQuiet}
use Rattle.process_table_base.proofs.Quiet.{none_due}

pub quiet_due : (at : At) (k : Kernel) → AreQuiet at.now.0 k.processes.rows → HasNothingDue at k
quiet_due at k h =
    let none = none_due at (free_places k.mode (with_errors k)) (action_of k.fixed.health DeadlineMissed) k.processes h in
    record { treated = ap (λ (t : Treated). t.step) none; clears = ap (λ (t : Treated). t.clears) none }

pub choice_stays : (k : Kernel) → starts_handler k.mode (with_errors k) ≡ nothing k.processes → chooses k.mode k.processes ≡ nothing k.processes → chooses_with_handler k ≡ nothing k
choice_stays k h c =
    ap (λ s. of_processes k (after s (chooses k.mode s.part))) h ∙ ap (λ s. of_processes k (after (nothing k.processes) s)) c
