-- In every run of a lawful image the lines tell of a partition what it is.
use Rattle.std.proofs.Common.{◌≡◌, ◌≢◌, ℕ, zero, suc, true, List, [], ◌∷◌, ◌++◌, map, Some, None, refl, sym, ◌∙◌, subst}
use Rattle.std.specs.Prelude.{◌+◌, slice_get}
use Rattle.std.proofs.lemmas.Option.{none-some, same_Some}
use Rattle.apex_types.specs.Versions.{costs_of}
use Rattle.apex_types.specs.declared.codes.StartCondition.TheVariants as condition
use Rattle.apex_types.specs.declared.device.DeviceLine.{DeviceLine}
use Rattle.apex_types.specs.declared.row.ProcessRow.{ProcessRow}
use Rattle.isolation.proofs.Law.{record_of, members_at, members_named}
use Rattle.isolation.proofs.OfImage.{name_in, image_apart}
use Rattle.kernel_laws.specs.History.{members_after}
use Rattle.kernel_laws.specs.Numbers.{first_numbers}
use Rattle.kernel_laws.specs.RunLaw.{disciplines_of, names_of}
use Rattle.kernel_laws.proofs.Fresh.{machine_ordered}
use Rattle.kernel_laws.proofs.OwnNames.{rows_apart}
use Rattle.kernel_laws.proofs.WaitRuns.{machine_holds}
use Rattle.kernel_meaning.specs.Partition.{Member}
use Rattle.machine_meaning.specs.Image.{Image, Item}
use Rattle.machine_meaning.specs.ImageLimits.{EachBeside, IsLawful}
use Rattle.machine_meaning.specs.MachineControl.{MachineControl}
use Rattle.machine_meaning.specs.MachineMeaning.{machine_members, machine_module, machine_row, machine_trace}
use Rattle.module_meaning.specs.Table.{at_number}
use Rattle.state_laws.specs.Spending.{owner_in, worker}
use Rattle.state_laws.specs.Starts.{starts_in}
use Rattle.state_laws.specs.States.{TellsState}
use Rattle.state_laws.specs.Told.{first_told, told, worked_in, worker_by_lines}
use Rattle.state_laws.proofs.Agreement.{KernelAgrees}
use Rattle.state_laws.proofs.First.{first_agrees, are_processes, tells}
use Rattle.state_laws.proofs.Members.{AreSaidBy, Stands}
use Rattle.state_laws.proofs.Run.{restarts, run_idle, run_orderly, run_said, run_stands, run_starts, run_worker}

-- ---- rows beside those before them

each_at : {A : Type 0} (P : List A → A → Type 0) (before xs : List A) → EachBeside P before xs → (i : ℕ) (x : A) → slice_get xs i ≡ Some x → (front : List A) × P front x
each_at P before [] h i x e = absurd (none-some x e)
each_at P before (y ∷ ys) h zero x e = (before, subst (P before) (same_Some y x e) h.0)
each_at P before (y ∷ ys) h (suc i) x e = each_at P (before ++ y ∷ []) ys h.1 i x e

-- ---- the partition of an image

module _ (image : Image) (lawful : IsLawful image) (place : ℕ) (item : Item) (e : at_number image.items (suc place) ≡ Some item) where
  abbrev members : List (Member MachineControl)
  members = machine_members (costs_of image.version) image.schedule 1 image.items

  abbrev pub first : Member MachineControl
  first = record_of (costs_of image.version) image.schedule (1 + place) item

  pub at_place : slice_get members place ≡ Some first
  at_place = members_at (costs_of image.version) image.schedule 1 image.items place item e

  image_agrees : KernelAgrees (restarts first_told) first.world.kernel
  image_agrees =
      let limits = lawful.limits in
      let it = each_at _ [] image.items limits.items place item e in
      let is = it.1 in
      let section = is.section in
      let bodies = section.bodies in
      first_agrees (map machine_row item.section.processes)
      (are_processes machine_row (λ (q : ProcessRow). q.name) (λ q. refl) (λ q. refl) item.section.processes (rows_apart item.partition.period [] item.section.processes bodies.processes)) _ _ _ _

  pub image_stands : Stands (disciplines_of members (suc place)) (names_of members (suc place)) (name_in item) place (map name_in image.items) (image_apart image lawful place item e) (restarts first_told) members
  image_stands = record {
    own = λ x g.
        let h = machine_holds image (suc place) x g in
        record {
          numbers = first_numbers;
          ordered = machine_ordered image (suc place) x g;
          holds = record { waiting = h.holds.waiting; all = λ few. absurd few; lists = h.holds.lists };
          agrees = subst (λ (y : Member MachineControl). KernelAgrees (restarts first_told) y.world.kernel) (same_Some first x (sym at_place ∙ g)) image_agrees;
        };
    named = members_named (costs_of image.version) image.schedule 1 image.items;
  }

pub image_tells : (image : Image) (devices : List DeviceLine) (n p : ℕ) (item : Item) (x : Member MachineControl) → IsLawful image → at_number image.items p ≡ Some item
    → at_number (members_after (machine_module image) devices n) p ≡ Some x → TellsState (told item.partition.name (machine_trace image devices n)) x.world.kernel
image_tells image devices n zero item x lawful e g = absurd (none-some item e)
image_tells image devices n (suc place) item x lawful e g =
    let members = machine_members (costs_of image.version) image.schedule 1 image.items in
    let s = run_stands (disciplines_of members (suc place)) (names_of members (suc place)) (name_in item) place (map name_in image.items) (image_apart image lawful place item e) (machine_module image) devices n
    (image_stands image lawful place item e) in
    let w = s.own x g in
    tells (told item.partition.name (machine_trace image devices n)) x.world.kernel w.agrees

pub image_worker : (image : Image) (devices : List DeviceLine) (n p : ℕ) (item : Item) → IsLawful image → at_number image.items p ≡ Some item → owner_in (machine_module image) devices n ≡ Some p
    → worker_by_lines n (told item.partition.name (machine_trace image devices (suc n))) ≡ worker (machine_module image) devices n
image_worker image devices n zero item lawful e g = absurd (none-some item e)
image_worker image devices n (suc place) item lawful e g =
    let members = machine_members (costs_of image.version) image.schedule 1 image.items in
    run_worker (disciplines_of members (suc place)) (names_of members (suc place)) (name_in item) place (map name_in image.items) (image_apart image lawful place item e) (machine_module image) devices n
    (image_stands image lawful place item e) g

module _ (image : Image) (devices : List DeviceLine) (n : ℕ) (lawful : IsLawful image) where
  pub image_orderly : (p : ℕ) (item : Item) → at_number image.items p ≡ Some item → (told item.partition.name (machine_trace image devices n)).orderly ≡ true
  image_orderly zero item e = absurd (none-some item e)
  image_orderly (suc place) item e =
      let members = machine_members (costs_of image.version) image.schedule 1 image.items in
      run_orderly (disciplines_of members (suc place)) (names_of members (suc place)) (name_in item) place (map name_in image.items) (image_apart image lawful place item e) (machine_module image) devices n
      (image_stands image lawful place item e)

  pub image_starts : (p : ℕ) (item : Item) → at_number image.items p ≡ Some item → (told item.partition.name (machine_trace image devices n)).starts ≡ starts_in (machine_module image) devices p n
  image_starts zero item e = absurd (none-some item e)
  image_starts (suc place) item e =
      let members = machine_members (costs_of image.version) image.schedule 1 image.items in
      run_starts (disciplines_of members (suc place)) (names_of members (suc place)) (name_in item) place (map name_in image.items) (image_apart image lawful place item e) (machine_module image) devices n
      (image_stands image lawful place item e)

  pub image_said : (p : ℕ) (item : Item) → at_number image.items p ≡ Some item → AreSaidBy item.partition.name (Some condition.NormalStart) first_told (machine_trace image devices n)
  image_said zero item e = absurd (none-some item e)
  image_said (suc place) item e =
      let members = machine_members (costs_of image.version) image.schedule 1 image.items in
      run_said (disciplines_of members (suc place)) (names_of members (suc place)) (name_in item) place (map name_in image.items) (image_apart image lawful place item e) (machine_module image) devices n
      (image_stands image lawful place item e)

  pub image_idle : (p : ℕ) (item : Item) → at_number image.items p ≡ Some item → owner_in (machine_module image) devices n ≢ Some p → worked_in n (told item.partition.name (machine_trace image devices (suc n))).worked ≡ None
  image_idle zero item e g = absurd (none-some item e)
  image_idle (suc place) item e g =
      let members = machine_members (costs_of image.version) image.schedule 1 image.items in
      run_idle (disciplines_of members (suc place)) (names_of members (suc place)) (name_in item) place (map name_in image.items) (image_apart image lawful place item e) (machine_module image) devices n
      (image_stands image lawful place item e) g
