-- The starts of a partition in a run: in which tick the kernel starts it, in which mode, and with which condition. Of several starts the last one is first.
use Rattle.std.specs.Prelude.{◌==◌, ◌||◌, ℕ, zero, suc, Bool, false, List, [], ◌∷◌, ◌++◌, Option, Some, None, if◌then◌else◌, option_map}
use Rattle.apex_types.specs.Runners.{place_of}
use Rattle.apex_types.specs.declared.codes.Mode.TheVariants as mode
use Rattle.apex_types.specs.declared.codes.ModuleAction.{ModuleAction}
use Rattle.apex_types.specs.declared.codes.ModuleAction.TheVariants as reaction
use Rattle.apex_types.specs.declared.codes.StartCondition.{StartCondition}
use Rattle.apex_types.specs.declared.codes.StartCondition.TheVariants as condition
use Rattle.apex_types.specs.declared.device.DeviceInput.{DeviceInput}
use Rattle.apex_types.specs.declared.device.DeviceInput.TheVariants as input
use Rattle.apex_types.specs.declared.device.DeviceLine.{DeviceLine}
use Rattle.apex_types.specs.declared.event.EventKind.{EventKind}
use Rattle.apex_types.specs.declared.event.EventKind.TheVariants as event
use Rattle.apex_types.specs.declared.identity.At.{At}
use Rattle.apex_types.specs.declared.identity.Runner.{Runner}
use Rattle.engine_meaning.specs.Engine.{Engine}
use Rattle.kernel_meaning.specs.HealthServices.{breaks, then_clears}
use Rattle.kernel_meaning.specs.Kernel.{Kernel}
use Rattle.kernel_meaning.specs.Partition.{Member, World, control_at, given, prepares, ticked, treating_phase, treats_asked, treats_due}
use Rattle.kernel_meaning.specs.PartitionServices.{clears}
use Rattle.kernel_meaning.specs.Step.{Step}
use Rattle.kernel_meaning.specs.Windows.{owner}
use Rattle.module_meaning.specs.Module.{Module, Plan, first_tick, inputs, module_tick, next_tick, of_member, of_tick, starts}
use Rattle.module_meaning.specs.Table.{at_number}
use Rattle.state_laws.specs.Spending.{before_owner}
use Rattle.state_laws.specs.Told.{Start, is_start}

-- ---- a step of the kernel

-- it enters the mode of a start
abbrev pub has_start : List EventKind → Bool
has_start [] = false
has_start (event.Mode m ∷ ks) = is_start m || has_start ks
has_start (k ∷ ks) = has_start ks

-- the mode and the start condition are those of the kernel's state after the step
abbrev pub start_of : ℕ → Kernel → Start
start_of tick k = record { tick = tick; mode = k.mode; condition = k.condition }

abbrev pub starts_of : ℕ → Step Kernel → List Start
starts_of tick s = if has_start s.lines then start_of tick s.part ∷ [] else []

-- ---- a tick of the partition

-- the request of the runner that is chosen
abbrev pub starts_asked : {C : Type 0} → Engine C → At → Option Runner → World C → List Start
starts_asked e at None w = []
starts_asked e at (Some p) w =
    let r = ticked e (control_at w.controls (place_of p)) w.words in
    starts_of at.now.0 (treats_asked at w.kernel p r.asks (given r.asks r.words))

-- a missed deadline may start the partition, and then the request
abbrev pub starts_ticking : {C : Type 0} → Engine C → At → World C → List Start
starts_ticking e at w =
    let d = treating_phase e at w in
    let p = prepares e at w in
    starts_asked e at p.world.kernel.processes.running p.world ++ starts_of at.now.0 (then_clears d.world.kernel (treats_due at w.kernel).clears)

abbrev pub starts_advancing : {C : Type 0} → At → Member C → List Start
starts_advancing at x = starts_ticking x.engine at x.world

-- ---- a tick of the module

abbrev pub starts_cold : {C : Type 0} → At → StartCondition → Member C → List Start
starts_cold at c x = starts_of at.now.0 (clears x.world.kernel mode.ColdStart c)

abbrev pub starts_broken : {C : Type 0} → At → Member C → List Start
starts_broken at x = starts_of at.now.0 (breaks x.world.kernel)

-- of the partition with a number, if the step is one of its own
abbrev pub starts_own : {C : Type 0} → ℕ → List (Member C) → (Member C → List Start) → ℕ → List Start
starts_own p members sees q = if q == p then of_member [] sees (at_number members p) else []

abbrev pub starts_by_fault : {C : Type 0} → At → ModuleAction → ℕ → List (Member C) → List Start
starts_by_fault at reaction.Reset p members = of_member [] (starts_cold at condition.HmModuleRestart) (at_number members p)
starts_by_fault at _ p members = []

-- a line of the devices
abbrev pub starts_by : {C : Type 0} → Plan → At → DeviceInput → ℕ → List (Member C) → List Start
starts_by plan at (input.Message channel m) p members = []
starts_by plan at (input.PartitionFault q) p members = starts_own p members (starts_broken at) q.0
starts_by plan at input.ModuleFault p members = starts_by_fault at plan.fault p members

abbrev pub unless_shut : (At → List Start) → Option At → List Start
unless_shut rest None = []
unless_shut rest (Some at) = rest at

abbrev pub starts_by_all : {C : Type 0} → Plan → List DeviceLine → ℕ → At → List (Member C) → List Start
starts_by_all plan [] p at members = []
starts_by_all plan (l ∷ ls) p at members =
    let i = inputs plan at l.input members in
    unless_shut (λ a. starts_by_all plan ls p a i.state) i.at ++ starts_by plan at l.input p members

-- the tick of the owner
abbrev pub starts_of_owner : {C : Type 0} → At → ℕ → List (Member C) → Option ℕ → List Start
starts_of_owner at p members None = []
starts_of_owner at p members (Some q) = starts_own p members (starts_advancing at) q

abbrev pub starts_in_tick : {C : Type 0} → Plan → List DeviceLine → ℕ → At → List (Member C) → List Start
starts_in_tick plan devices p at members =
    let lines = of_tick at.now.0 devices in
    let c = before_owner plan at devices members in
    unless_shut (λ a. starts_of_owner a p c.state (owner plan.schedule a)) c.at ++ starts_by_all plan lines p at members

-- ---- a run

abbrev pub starts_from : {C : Type 0} → Plan → List DeviceLine → ℕ → ℕ → Option At → List (Member C) → List Start
starts_from plan devices p zero at members = []
starts_from plan devices p (suc n) None members = []
starts_from plan devices p (suc n) (Some at) members =
    let r = module_tick plan at devices members in
    starts_from plan devices p n (option_map next_tick r.at) r.state ++ starts_in_tick plan devices p at members

-- the starts of partition p in n ticks of a run: with the module, and in the ticks
abbrev pub starts_in : {C : Type 0} → Module C → List DeviceLine → ℕ → ℕ → List Start
starts_in m devices p zero = []
starts_in m devices p (suc n) =
    let s = starts m.members in
    starts_from m.plan devices p (suc n) (Some first_tick) s.state ++ of_member [] (starts_cold first_tick condition.NormalStart) (at_number m.members p)
