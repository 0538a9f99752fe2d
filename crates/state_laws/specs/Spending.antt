-- Who spends the ticks of a run: in each tick the runner that the owner of the tick's window chooses.
use Rattle.std.specs.Prelude.{ℕ, zero, suc, List, [], Option, Some, None, option_map}
use Rattle.apex_types.specs.declared.device.DeviceLine.{DeviceLine}
use Rattle.apex_types.specs.declared.event.Subject.{Subject}
use Rattle.apex_types.specs.declared.identity.At.{At}
use Rattle.kernel_meaning.specs.Partition.{Member, prepares}
use Rattle.kernel_meaning.specs.Windows.{ended, owner}
use Rattle.module_meaning.specs.Module.{Course, Module, Plan, first_tick, goes_on, inputs_all, module_tick, moves_ended, next_tick, of_tick, starts, then_runs}
use Rattle.module_meaning.specs.Table.{at_number}
use Rattle.state_laws.specs.States.{runs_in}

-- a tick up to the owner's: the lines of the devices, then the moves of messages
abbrev pub before_owner : {C : Type 0} → Plan → At → List DeviceLine → List (Member C) → Course (List (Member C))
before_owner plan at devices members =
    then_runs (inputs_all plan at (of_tick at.now.0 devices) members) (λ a ms. goes_on a (moves_ended plan.channels a ms (ended plan.schedule a)))

abbrev pub shut_down : {C : Type 0} → List (Member C) → Course (List (Member C))
shut_down members = record { at = None; state = members; lines = [] }

-- the tick n ticks later, up to the owner's
abbrev pub before_owner_from : {C : Type 0} → Plan → List DeviceLine → ℕ → Option At → List (Member C) → Course (List (Member C))
before_owner_from plan devices zero None members = shut_down members
before_owner_from plan devices zero (Some at) members = before_owner plan at devices members
before_owner_from plan devices (suc n) None members = shut_down members
before_owner_from plan devices (suc n) (Some at) members =
    let r = module_tick plan at devices members in
    before_owner_from plan devices n (option_map next_tick r.at) r.state

-- tick n of a run, up to the owner's
abbrev pub before_owner_in : {C : Type 0} → Module C → List DeviceLine → ℕ → Course (List (Member C))
before_owner_in m devices n = let s = starts m.members in before_owner_from m.plan devices n (Some first_tick) s.state

-- the owner of the window, unless the module is shut down
abbrev pub owner_of : Plan → Option At → Option ℕ
owner_of plan None = None
owner_of plan (Some at) = owner plan.schedule at

abbrev pub owner_in : {C : Type 0} → Module C → List DeviceLine → ℕ → Option ℕ
owner_in m devices n = let c = before_owner_in m devices n in owner_of m.plan c.at

-- the runner that a partition chooses for a tick, if any
abbrev pub chosen_by : {C : Type 0} → At → Option (Member C) → Option Subject
chosen_by at None = None
chosen_by at (Some x) = let p = prepares x.engine at x.world in runs_in p.world.kernel

abbrev pub worker_at : {C : Type 0} → At → List (Member C) → Option ℕ → Option Subject
worker_at at members None = None
worker_at at members (Some p) = chosen_by at (at_number members p)

abbrev pub worker_of : {C : Type 0} → Plan → Option At → List (Member C) → Option Subject
worker_of plan None members = None
worker_of plan (Some at) members = worker_at at members (owner plan.schedule at)

-- who spends tick n of a run: nobody if the module is shut down, the tick is in no window, or its owner chooses nobody
abbrev pub worker : {C : Type 0} → Module C → List DeviceLine → ℕ → Option Subject
worker m devices n = let c = before_owner_in m devices n in worker_of m.plan c.at c.state
