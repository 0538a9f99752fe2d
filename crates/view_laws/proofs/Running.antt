-- In which ticks a view shows in a run that a runner is RUNNING.
use Rattle.std.proofs.Common.{◌≡◌, ◌≢◌, ◌<◌, ◌≤◌, ℕ, suc, Bool, true, false, List, Option, Some, None, refl, sym, ap, ◌∙◌, subst, arith}
use Rattle.std.specs.Prelude.{◌||◌}
use Rattle.std.proofs.lemmas.Bool.{eqb-true, eq-eqb, false≢true}
use Rattle.std.proofs.lemmas.List.{length-map}
use Rattle.std.proofs.lemmas.Option.{none-some, same_Some}
use Rattle.apex_types.specs.Limits.{MOST_TICKS}
use Rattle.apex_types.specs.Line.{subject_text}
use Rattle.apex_types.specs.declared.device.DeviceLine.{DeviceLine}
use Rattle.apex_types.specs.declared.event.Event.{Event}
use Rattle.apex_types.specs.declared.event.Subject.{Subject}
use Rattle.kernel_laws.specs.History.{members_after}
use Rattle.kernel_meaning.specs.Partition.{Member}
use Rattle.machine_meaning.specs.Image.{Image, Item}
use Rattle.machine_meaning.specs.ImageLimits.{IsLawful}
use Rattle.machine_meaning.specs.MachineMeaning.{machine_module, machine_trace}
use Rattle.module_meaning.specs.Accepted.{IsModule}
use Rattle.module_meaning.specs.Module.{Module, trace}
use Rattle.module_meaning.specs.SourceMeaning.{source_module, source_trace}
use Rattle.module_meaning.specs.Table.{Partition, Table, at_number}
use Rattle.pal_meaning.specs.Program.{Program}
use Rattle.state_laws.specs.Spending.{owner_in, worker}
use Rattle.state_laws.specs.States.{TellsState}
use Rattle.state_laws.specs.Told.{Told, is_it, told, worked_in, worker_by_lines, running_or}
use Rattle.state_laws.proofs.OfImages.{image_idle, image_orderly, image_tells, image_worker}
use Rattle.state_laws.proofs.OfModules.{module_idle, module_orderly, module_tells, module_worker}
use Rattle.trace_stays.specs.Traces.{stays_in}
use Rattle.trace_windows.specs.Uses.{one_if}
use Rattle.view_laws.specs.Shown.{HasOwnWord}
use Rattle.view_laws.specs.Ticks.{current_in, is_owned, running_in, runs_if, runs_in_tick, runs_told}
use Rattle.view_laws.specs.Spent.{name_of_item, name_of_row}
use Rattle.view_laws.proofs.OfRuns.{image_many, module_many, there_too}
use Rattle.view_laws.proofs.Run.{run_members, run_order, run_up_to}
use Rattle.view_laws.proofs.Stays.{runner_in, works_alone}

or_nothing : (a : Bool) → (a || false) ≡ a
or_nothing true = refl
or_nothing false = refl

-- in a tick of the partition
by_worker : (who : Subject) (r o : Option Subject) → ((y : Subject) → r ≡ Some y → o ≡ None) → (is_it who r || is_it who o) ≡ is_it who (running_or r o)
by_worker who None o alone = refl
by_worker who (Some y) o alone = ap (λ (x : Option Subject). is_it who (Some y) || is_it who x) (alone y refl) ∙ or_nothing (is_it who (Some y))

pub owned_so : (p : ℕ) (o : Option ℕ) → is_owned p o ≡ true → o ≡ Some p
owned_so p None e = absurd (false≢true e)
owned_so p (Some q) e = ap Some (eqb-true q p e)

pub not_owned : (p : ℕ) (o : Option ℕ) → is_owned p o ≡ false → o ≢ Some p
not_owned p None e f = none-some p f
not_owned p (Some q) e f = false≢true (sym e ∙ eq-eqb q p (same_Some q p f))

module _ {C : Type 0} (m : Module C) (devices : List DeviceLine) (n until t p : ℕ) (name : List ℕ) (who : Subject) (x : Member C) (found : at_number (members_after m devices (suc t)) p ≡ Some x) (l : t < n) (u : t < until) (few : n ≤ MOST_TICKS) (own : HasOwnWord (trace m devices n) who)
    (orderly : (told name (trace m devices n)).orderly ≡ true) (tells : TellsState (told name (trace m devices (suc t))) x.world.kernel)
    (works : owner_in m devices t ≡ Some p → worker_by_lines t (told name (trace m devices (suc t))) ≡ worker m devices t)
    (idles : owner_in m devices t ≢ Some p → worked_in t (told name (trace m devices (suc t))).worked ≡ None) where
  abbrev v : Told
  v = told name (trace m devices (suc t))

  alone : (y : Subject) → v.running ≡ Some y → worked_in t v.worked ≡ None
  alone = subst (λ (lines : List Event). (y : Subject) → (told name lines).running ≡ Some y → worked_in t (told name lines).worked ≡ None) (run_up_to m devices n t l)
      (works_alone (trace m devices n) until name who t own (run_order m devices n) orderly u (omega (arith, l, few)))

  by_owner : (b : Bool) → is_owned p (owner_in m devices t) ≡ b → runs_told t who v ≡ runs_if b who (worker m devices t) (current_in (at_number (members_after m devices (suc t)) p))
  by_owner true e = by_worker who v.running (worked_in t v.worked) alone ∙ ap (is_it who) (works (owned_so p (owner_in m devices t) e))
  by_owner false e =
      ap (λ (o : Option Subject). is_it who v.running || is_it who o) (idles (not_owned p (owner_in m devices t) e))
      ∙ or_nothing (is_it who v.running)
      ∙ ap (is_it who) (tells.running ∙ sym (ap current_in found))

  pub run_running : running_in t (stays_in (trace m devices n) until name (subject_text who) None) ≡ one_if (runs_in_tick m devices p who t)
  run_running =
      runner_in (trace m devices n) until name who t own (run_order m devices n) orderly u (omega (arith, l, few))
      ∙ ap (λ (lines : List Event). one_if (runs_told t who (told name lines))) (run_up_to m devices n t l)
      ∙ ap one_if (by_owner (is_owned p (owner_in m devices t)) refl)

pub image_running : (image : Image) (devices : List DeviceLine) (n until t p : ℕ) (item : Item) (who : Subject) → IsLawful image → t < n → t < until → n ≤ MOST_TICKS → at_number image.items p ≡ Some item
    → HasOwnWord (machine_trace image devices n) who
    → running_in t (stays_in (machine_trace image devices n) until item.partition.name (subject_text who) None) ≡ one_if (runs_in_tick (machine_module image) devices p who t)
image_running image devices n until t p item who lawful l u few here own =
    let many = sym (length-map image.items name_of_item) ∙ image_many image ∙ sym (run_members (machine_module image) devices (suc t)) in
    let there = there_too image.items (members_after (machine_module image) devices (suc t)) p item many here in
    run_running (machine_module image) devices n until t p item.partition.name who there.0 there.1 l u few own
    (image_orderly image devices n lawful p item here)
    (image_tells image devices (suc t) p item there.0 lawful here there.1)
    (λ owns. image_worker image devices t p item lawful here owns)
    (λ owns. image_idle image devices t lawful p item here owns)

pub module_running : (table : List ℕ) (sources : List (List ℕ)) (t : Table) (programs : List Program) (devices : List DeviceLine) (n until i p : ℕ) (row : Partition) (who : Subject)
    → IsModule table sources t programs → i < n → i < until → n ≤ MOST_TICKS → at_number t.partitions p ≡ Some row
    → HasOwnWord (source_trace t programs devices n) who
    → running_in i (stays_in (source_trace t programs devices n) until row.name (subject_text who) None) ≡ one_if (runs_in_tick (source_module t programs) devices p who i)
module_running table sources t programs devices n until i p row who accepted l u few here own =
    let many = sym (length-map t.partitions name_of_row) ∙ module_many table sources t programs accepted ∙ sym (run_members (source_module t programs) devices (suc i)) in
    let there = there_too t.partitions (members_after (source_module t programs) devices (suc i)) p row many here in
    run_running (source_module t programs) devices n until i p row.name who there.0 there.1 l u few own
    (module_orderly table sources t programs devices n accepted p row here)
    (module_tells table sources t programs devices (suc i) accepted p row there.0 here there.1)
    (λ owns. module_worker table sources t programs devices i accepted p row here owns)
    (λ owns. module_idle table sources t programs devices i accepted p row here owns)
