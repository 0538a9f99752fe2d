-- In which ticks of a run a view shows that a runner is READY or WAITING.
use Rattle.std.proofs.Common.{◌≡◌, ◌≢◌, ◌<◌, ◌≤◌, ℕ, suc, Bool, true, false, List, Option, Some, None, refl, sym, ap, ◌∙◌, subst, arith}
use Rattle.std.specs.Prelude.{◌&&◌, nat_le}
use Rattle.std.proofs.lemmas.Bool.{false≢true, le-leb}
use Rattle.apex_types.specs.Limits.{MOST_TICKS}
use Rattle.apex_types.specs.Line.{subject_text}
use Rattle.apex_types.specs.declared.codes.ProcessState.{ProcessState}
use Rattle.apex_types.specs.declared.codes.ProcessState.TheVariants as state
use Rattle.apex_types.specs.declared.device.DeviceLine.{DeviceLine}
use Rattle.apex_types.specs.declared.event.Event.{Event}
use Rattle.apex_types.specs.declared.event.Subject.{Subject}
use Rattle.apex_types.specs.declared.identity.Runner.{Runner}
use Rattle.apex_types.specs.declared.process.ProcessStatus.{ProcessStatus}
use Rattle.kernel_laws.specs.History.{members_after}
use Rattle.kernel_meaning.specs.Partition.{Member}
use Rattle.kernel_meaning.specs.Processes.{row_of}
use Rattle.machine_meaning.specs.Image.{Image, Item}
use Rattle.machine_meaning.specs.ImageLimits.{IsLawful}
use Rattle.machine_meaning.specs.MachineControl.{MachineControl}
use Rattle.machine_meaning.specs.MachineMeaning.{machine_module, machine_trace}
use Rattle.module_meaning.specs.Accepted.{IsModule}
use Rattle.module_meaning.specs.Module.{Module, trace}
use Rattle.module_meaning.specs.SourceMeaning.{source_module, source_trace}
use Rattle.module_meaning.specs.Table.{Partition, Table, at_number}
use Rattle.pal_meaning.specs.Program.{Program}
use Rattle.pal_meaning.specs.SourceControl.{SourceControl}
use Rattle.state_laws.specs.Spending.{owner_in, worker}
use Rattle.state_laws.specs.States.{TellsState}
use Rattle.state_laws.specs.Told.{Told, is_it, running_or, told, worked_in, worker_by_lines}
use Rattle.state_laws.proofs.OfImages.{image_idle, image_orderly, image_tells, image_worker}
use Rattle.state_laws.proofs.OfModules.{module_idle, module_orderly, module_tells, module_worker}
use Rattle.trace_stays.specs.Traces.{state_after, stays_in}
use Rattle.trace_stays.specs.declared.stay.Held.{Held}
use Rattle.trace_windows.specs.Uses.{one_if}
use Rattle.view_laws.specs.Shown.{HasOwnWord, state_of}
use Rattle.view_laws.specs.Reading.{up_to}
use Rattle.view_laws.specs.Ticks.{is_owned, is_resting, is_running, is_same_state, state_in, works_in_tick}
use Rattle.view_laws.proofs.Counted.{word_up_to}
use Rattle.view_laws.proofs.Run.{run_order, run_up_to}
use Rattle.view_laws.proofs.Running.{not_owned, owned_so}
use Rattle.view_laws.proofs.Shown.{state_is_told}
use Rattle.view_laws.proofs.Stated.{shown, shows_now}
use Rattle.view_laws.proofs.Stays.{state_since, works_alone}

rests : (s : ProcessState) → is_resting s ≡ true → is_running s ≡ false
rests state.Running e = absurd (false≢true e)
rests state.Dormant e = refl
rests state.Ready e = refl
rests state.Waiting e = refl

not_dormant : (s : ProcessState) → is_resting s ≡ true → is_same_state s state.Dormant ≡ false
not_dormant state.Running e = refl
not_dormant state.Dormant e = absurd (false≢true e)
not_dormant state.Ready e = refl
not_dormant state.Waiting e = refl

and_true : (a : Bool) → (a && true) ≡ a
and_true true = refl
and_true false = refl

-- who has not worked, if nobody works where somebody runs
idle_by : (who : Subject) (r o : Option Subject) → ((y : Subject) → r ≡ Some y → o ≡ None) → is_it who (running_or r o) ≡ false → is_it who o ≡ false
idle_by who None o alone e = e
idle_by who (Some y) o alone e = ap (is_it who) (alone y refl)

module _ {C : Type 0} (m : Module C) (devices : List DeviceLine) (n until t p : ℕ) (name : List ℕ) (x : Member C) (q : Runner) (r : ProcessStatus) (wanted : ProcessState) (resting : is_resting wanted ≡ true) (l : t < n) (u : t < until)
    (few : n ≤ MOST_TICKS) (row : row_of x.world.kernel.processes q ≡ Some r) (own : HasOwnWord (trace m devices n) r.who) (idle : works_in_tick m devices p r.who t ≡ false)
    (orderly : (told name (trace m devices n)).orderly ≡ true) (tells : TellsState (told name (trace m devices (suc t))) x.world.kernel)
    (works : owner_in m devices t ≡ Some p → worker_by_lines t (told name (trace m devices (suc t))) ≡ worker m devices t)
    (idles : owner_in m devices t ≢ Some p → worked_in t (told name (trace m devices (suc t))).worked ≡ None) where
  abbrev v : Told
  v = told name (trace m devices (suc t))

  soon : t < MOST_TICKS
  soon = omega (arith, l, few)

  part : up_to t (trace m devices n) ≡ trace m devices (suc t)
  part = run_up_to m devices n t l

  alone : (y : Subject) → v.running ≡ Some y → worked_in t v.worked ≡ None
  alone = subst (λ (lines : List Event). (y : Subject) → (told name lines).running ≡ Some y → worked_in t (told name lines).worked ≡ None) part (works_alone (trace m devices n) until name r.who t own (run_order m devices n) orderly u soon)

  by_owner : (b : Bool) → is_owned p (owner_in m devices t) ≡ b → (b && is_it r.who (worker m devices t)) ≡ false → is_it r.who (worked_in t v.worked) ≡ false
  by_owner true e f = idle_by r.who v.running (worked_in t v.worked) alone (ap (is_it r.who) (works (owned_so p (owner_in m devices t) e)) ∙ f)
  by_owner false e f = ap (is_it r.who) (idles (not_owned p (owner_in m devices t) e))

  not_worked : is_it r.who (worked_in t (told name (up_to t (trace m devices n))).worked) ≡ false
  not_worked = subst (λ (lines : List Event). is_it r.who (worked_in t (told name lines).worked) ≡ false) (sym part) (by_owner (is_owned p (owner_in m devices t)) refl idle)

  since : (h : Held) → state_after (trace m devices (suc t)) name (subject_text r.who) None ≡ Some h → h.since.0 ≤ t
  since = subst (λ (lines : List Event). (h : Held) → state_after lines name (subject_text r.who) None ≡ Some h → h.since.0 ≤ t) part
      (state_since (trace m devices n) until name r.who t own (run_order m devices n) orderly u soon not_worked)

  word : HasOwnWord (trace m devices (suc t)) r.who
  word = subst (λ (lines : List Event). HasOwnWord lines r.who) part (word_up_to t (trace m devices n) r.who own)

  is_state : state_of (state_after (trace m devices (suc t)) name (subject_text r.who) None) ≡ r.state
  is_state = state_is_told (trace m devices (suc t)) name r.who word ∙ tells.states q r row

  by_held : (o : Option Held) → state_after (trace m devices (suc t)) name (subject_text r.who) None ≡ o → state_of o ≡ r.state → shows_now t soon wanted (rests wanted resting) o ≡ one_if (is_same_state wanted r.state)
  by_held None e is = sym (ap (λ (s : ProcessState). one_if (is_same_state wanted s)) (sym is) ∙ ap one_if (not_dormant wanted resting))
  by_held (Some h) e is =
      ap (λ (b : Bool). one_if (is_same_state wanted h.state && b)) (le-leb h.since.0 t (since h e))
      ∙ ap one_if (and_true (is_same_state wanted h.state))
      ∙ ap (λ (s : ProcessState). one_if (is_same_state wanted s)) is

  pub run_state : state_in wanted t (stays_in (trace m devices n) until name (subject_text r.who) None) ≡ one_if (is_same_state wanted r.state)
  run_state =
      shown t soon wanted (rests wanted resting) (trace m devices n) until name (subject_text r.who) 0 None (run_order m devices n) u
      ∙ ap (λ (lines : List Event). shows_now t soon wanted (rests wanted resting) (state_after lines name (subject_text r.who) None)) part
      ∙ by_held (state_after (trace m devices (suc t)) name (subject_text r.who) None) refl is_state

-- no more than that, whether or not it spends the tick
module _ {C : Type 0} (m : Module C) (devices : List DeviceLine) (n until t : ℕ) (name : List ℕ) (x : Member C) (q : Runner) (r : ProcessStatus) (wanted : ProcessState) (other : is_running wanted ≡ false) (l : t < n) (u : t < until)
    (few : n ≤ MOST_TICKS) (row : row_of x.world.kernel.processes q ≡ Some r) (own : HasOwnWord (trace m devices n) r.who) (tells : TellsState (told name (trace m devices (suc t))) x.world.kernel) where
  abbrev early : t < MOST_TICKS
  early = omega (arith, l, few)

  most_held : (o : Option Held) → state_of o ≡ r.state → shows_now t early wanted other o ≤ one_if (is_same_state wanted r.state)
  most_held None is = omega arith
  most_held (Some h) is = subst (λ (s : ProcessState). one_if (is_same_state wanted h.state && nat_le h.since.0 t) ≤ one_if (is_same_state wanted s)) is (less (is_same_state wanted h.state) (nat_le h.since.0 t))
    where
      less : (a b : Bool) → one_if (a && b) ≤ one_if a
      less true true = omega arith
      less true false = omega arith
      less false b = omega arith

  pub run_most : state_in wanted t (stays_in (trace m devices n) until name (subject_text r.who) None) ≤ one_if (is_same_state wanted r.state)
  run_most =
      let part = run_up_to m devices n t l in
      let word = subst (λ (lines : List Event). HasOwnWord lines r.who) part (word_up_to t (trace m devices n) r.who own) in
      let is = shown t early wanted other (trace m devices n) until name (subject_text r.who) 0 None (run_order m devices n) u
      ∙ ap (λ (lines : List Event). shows_now t early wanted other (state_after lines name (subject_text r.who) None)) part in
      let most = most_held (state_after (trace m devices (suc t)) name (subject_text r.who) None) (state_is_told (trace m devices (suc t)) name r.who word ∙ tells.states q r row) in
      omega (arith, is, most)

pub image_state : (image : Image) (devices : List DeviceLine) (n until t p : ℕ) (item : Item) (x : Member MachineControl) (q : Runner) (r : ProcessStatus) (wanted : ProcessState) → IsLawful image → t < n → t < until → n ≤ MOST_TICKS
    → at_number image.items p ≡ Some item → at_number (members_after (machine_module image) devices (suc t)) p ≡ Some x → row_of x.world.kernel.processes q ≡ Some r → HasOwnWord (machine_trace image devices n) r.who
    → is_resting wanted ≡ true → works_in_tick (machine_module image) devices p r.who t ≡ false
    → state_in wanted t (stays_in (machine_trace image devices n) until item.partition.name (subject_text r.who) None) ≡ one_if (is_same_state wanted r.state)
image_state image devices n until t p item x q r wanted lawful l u few here found row own resting idle =
    run_state (machine_module image) devices n until t p item.partition.name x q r wanted resting l u few row own idle
    (image_orderly image devices n lawful p item here)
    (image_tells image devices (suc t) p item x lawful here found)
    (λ owns. image_worker image devices t p item lawful here owns)
    (λ owns. image_idle image devices t lawful p item here owns)

pub module_state : (table : List ℕ) (sources : List (List ℕ)) (t : Table) (programs : List Program) (devices : List DeviceLine) (n until i p : ℕ) (part : Partition) (x : Member SourceControl) (q : Runner) (r : ProcessStatus) (wanted : ProcessState)
    → IsModule table sources t programs → i < n → i < until → n ≤ MOST_TICKS → at_number t.partitions p ≡ Some part
    → at_number (members_after (source_module t programs) devices (suc i)) p ≡ Some x → row_of x.world.kernel.processes q ≡ Some r → HasOwnWord (source_trace t programs devices n) r.who
    → is_resting wanted ≡ true → works_in_tick (source_module t programs) devices p r.who i ≡ false
    → state_in wanted i (stays_in (source_trace t programs devices n) until part.name (subject_text r.who) None) ≡ one_if (is_same_state wanted r.state)
module_state table sources t programs devices n until i p part x q r wanted accepted l u few here found row own resting idle =
    run_state (source_module t programs) devices n until i p part.name x q r wanted resting l u few row own idle
    (module_orderly table sources t programs devices n accepted p part here)
    (module_tells table sources t programs devices (suc i) accepted p part x here found)
    (λ owns. module_worker table sources t programs devices i accepted p part here owns)
    (λ owns. module_idle table sources t programs devices i accepted p part here owns)

pub image_most : (image : Image) (devices : List DeviceLine) (n until t p : ℕ) (item : Item) (x : Member MachineControl) (q : Runner) (r : ProcessStatus) (wanted : ProcessState) → IsLawful image → t < n → t < until → n ≤ MOST_TICKS
    → at_number image.items p ≡ Some item → at_number (members_after (machine_module image) devices (suc t)) p ≡ Some x → row_of x.world.kernel.processes q ≡ Some r → HasOwnWord (machine_trace image devices n) r.who → is_running wanted ≡ false
    → state_in wanted t (stays_in (machine_trace image devices n) until item.partition.name (subject_text r.who) None) ≤ one_if (is_same_state wanted r.state)
image_most image devices n until t p item x q r wanted lawful l u few here found row own other =
    run_most (machine_module image) devices n until t item.partition.name x q r wanted other l u few row own (image_tells image devices (suc t) p item x lawful here found)

pub module_most : (table : List ℕ) (sources : List (List ℕ)) (t : Table) (programs : List Program) (devices : List DeviceLine) (n until i p : ℕ) (part : Partition) (x : Member SourceControl) (q : Runner) (r : ProcessStatus) (wanted : ProcessState)
    → IsModule table sources t programs → i < n → i < until → n ≤ MOST_TICKS → at_number t.partitions p ≡ Some part
    → at_number (members_after (source_module t programs) devices (suc i)) p ≡ Some x → row_of x.world.kernel.processes q ≡ Some r → HasOwnWord (source_trace t programs devices n) r.who → is_running wanted ≡ false
    → state_in wanted i (stays_in (source_trace t programs devices n) until part.name (subject_text r.who) None) ≤ one_if (is_same_state wanted r.state)
module_most table sources t programs devices n until i p part x q r wanted accepted l u few here found row own other =
    run_most (source_module t programs) devices n until i part.name x q r wanted other l u few row own (module_tells table sources t programs devices (suc i) accepted p part x here found)
