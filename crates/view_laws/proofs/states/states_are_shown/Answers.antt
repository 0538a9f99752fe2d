use Rattle.std.proofs.Common.{List, suc, subst, sym}
use Rattle.apex_types.specs.declared.event.Event.{Event}
use Rattle.machine_meaning.specs.MachineMeaning.{machine_module, machine_trace}
use Rattle.module_meaning.specs.SourceMeaning.{source_module, source_trace}
use Rattle.state_laws.proofs.OfImages.{image_tells}
use Rattle.state_laws.proofs.OfModules.{module_tells}
use Rattle.view_laws.specs.Shown.{ShowsState}
use Rattle.view_laws.proofs.Run.{run_up_to}
use Rattle.view_laws.proofs.Shown.{shows}
use Rattle.view_laws.proofs.states.states_are_shown.Goals as goal

pub returns-clause-machine : goal.returns-clause-machine
returns-clause-machine c = λ image devices n t p item x lawful l here found.
    subst (λ (lines : List Event). ShowsState lines item.partition.name x.world.kernel) (sym (run_up_to (machine_module image) devices n t l))
    (shows (machine_trace image devices (suc t)) item.partition.name x.world.kernel (image_tells image devices (suc t) p item x lawful here found))

pub returns-clause-accepted : goal.returns-clause-accepted
returns-clause-accepted c = λ table sources t programs devices n i p row x accepted l here found.
    subst (λ (lines : List Event). ShowsState lines row.name x.world.kernel) (sym (run_up_to (source_module t programs) devices n i l))
    (shows (source_trace t programs devices (suc i)) row.name x.world.kernel (module_tells table sources t programs devices (suc i) accepted p row x here found))
