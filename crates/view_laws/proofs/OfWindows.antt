-- The windows of a view of the lines of a run are the kernel's.
use Rattle.std.proofs.Common.{◌≡◌, ◌<◌, ◌≤◌, ℕ, List, Option, Some, None, ap, ◌∙◌, arith}
use Rattle.apex_types.specs.Limits.{MOST_TICKS}
use Rattle.apex_types.specs.declared.device.DeviceLine.{DeviceLine}
use Rattle.apex_types.specs.declared.event.Event.{Event}
use Rattle.kernel_meaning.specs.Windows.{Schedule}
use Rattle.machine_meaning.specs.MachineMeaning.{machine_module, machine_trace}
use Rattle.module_meaning.specs.Module.{Module, trace}
use Rattle.module_meaning.specs.SourceMeaning.{source_module, source_trace}
use Rattle.trace_windows.specs.Frames as frames
use Rattle.trace_windows.specs.Whole.{AreWindowsIn}
use Rattle.trace_windows.specs.declared.windows.Windows.{Windows}
use Rattle.view_laws.specs.Reports.{AreWindowsOf}
use Rattle.view_laws.specs.Spent.{names_of_image, names_of_table}
use Rattle.view_laws.specs.Windowed.{OwnersOfMachines, OwnersOfModules, ShowOwnersIn}
use Rattle.view_laws.proofs.OfRuns.{run_owners}
use Rattle.view_laws.proofs.Run.{run_order}

module _ {C : Type 0} (m : Module C) (devices : List DeviceLine) (n : ℕ) (few : n ≤ MOST_TICKS) (names : List (List ℕ)) (from until : ℕ) (inside : until ≤ n) where
  abbrev lines : List Event
  lines = trace m devices n

  owners_shown : (known : Option (Schedule × List (List ℕ))) (o : Option Windows) → AreWindowsOf m.plan.schedule names known → AreWindowsIn known from until lines o → ShowOwnersIn m devices names from until o
  owners_shown None None g h = tt
  owners_shown None (Some w) g h = absurd h
  owners_shown (Some k) None g h = absurd h
  owners_shown (Some k) (Some w) g h = record {
    named = h.named ∙ g.1;
    owners = λ t later early.
        h.owners (run_order m devices n) t later early (omega (arith, early, inside, few))
        ∙ (ap (λ (s : Schedule). frames.owner_in s frames.at_first lines t) g.0 ∙ run_owners m devices n t (omega (arith, early, inside)));
  }

pub machines_owned : (AreIts : List Event → Type 0) (from until : ℕ) (known : Option (Schedule × List (List ℕ))) (w : Option Windows) → ((lines : List Event) → AreIts lines → AreWindowsIn known from until lines w)
    → OwnersOfMachines AreIts from until known w
machines_owned AreIts from until known w is = λ image devices n lawful few given its inside.
    owners_shown (machine_module image) devices n few (names_of_image image) from until inside known w given (is (machine_trace image devices n) its)

pub modules_owned : (AreIts : List Event → Type 0) (from until : ℕ) (known : Option (Schedule × List (List ℕ))) (w : Option Windows) → ((lines : List Event) → AreIts lines → AreWindowsIn known from until lines w)
    → OwnersOfModules AreIts from until known w
modules_owned AreIts from until known w is = λ table sources t programs devices n accepted few given its inside.
    owners_shown (source_module t programs) devices n few (names_of_table t) from until inside known w given (is (source_trace t programs devices n) its)
