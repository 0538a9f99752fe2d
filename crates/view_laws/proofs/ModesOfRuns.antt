-- In which ticks of a run a view shows a mode.
use Rattle.std.proofs.Common.{◌≡◌, ◌<◌, ℕ, zero, suc, Bool, true, false, List, [], ◌∷◌, ◌++◌, map, Option, Some, None, refl, sym, ap, ◌∙◌, subst}
use Rattle.std.specs.Prelude.{if◌then◌else◌, option_map, slice_get}
use Rattle.std.specs.List.{flat_map}
use Rattle.std.proofs.lemmas.Option.{none-some, same_Some, slice_get-map}
use Rattle.apex_types.specs.Versions.{costs_of}
use Rattle.apex_types.specs.declared.codes.Mode.{Mode}
use Rattle.apex_types.specs.declared.codes.Mode.TheVariants as mode
use Rattle.apex_types.specs.declared.codes.ProcessState.TheVariants.{Ready}
use Rattle.apex_types.specs.declared.codes.StartCondition.{StartCondition}
use Rattle.apex_types.specs.declared.codes.StartCondition.TheVariants as condition
use Rattle.apex_types.specs.declared.device.DeviceLine.{DeviceLine}
use Rattle.apex_types.specs.declared.event.Event.{Event}
use Rattle.apex_types.specs.declared.event.EventKind.{EventKind}
use Rattle.apex_types.specs.declared.event.EventKind.TheVariants as event
use Rattle.apex_types.specs.declared.event.Subject.TheVariants.{Init}
use Rattle.apex_types.specs.declared.identity.At.{At}
use Rattle.engine_meaning.specs.Digits.{same}
use Rattle.isolation.proofs.Law.{members_named}
use Rattle.isolation.proofs.Steps.{name_of}
use Rattle.kernel_laws.specs.History.{members_after}
use Rattle.kernel_meaning.specs.Partition.{Member, line}
use Rattle.machine_meaning.specs.Image.{Image, Item}
use Rattle.machine_meaning.specs.ImageLimits.{IsLawful}
use Rattle.machine_meaning.specs.MachineControl.{MachineControl}
use Rattle.machine_meaning.specs.MachineMeaning.{machine_module, machine_trace}
use Rattle.module_meaning.specs.Accepted.{IsModule}
use Rattle.module_meaning.specs.Module.{Module, first_tick, start_lines, starts_all, trace, trace_from}
use Rattle.module_meaning.specs.SourceMeaning.{source_module, source_trace}
use Rattle.module_meaning.specs.Table.{Partition, Table, at_number}
use Rattle.pal_meaning.specs.Program.{Program}
use Rattle.pal_meaning.specs.SourceControl.{SourceControl}
use Rattle.state_laws.specs.Told.{told}
use Rattle.state_laws.proofs.OfImages.{image_tells}
use Rattle.state_laws.proofs.OfModules.{module_tells}
use Rattle.state_laws.proofs.Subjects.{name_itself}
use Rattle.trace_stays.specs.Following.{is_of, mode_in as mode_with}
use Rattle.trace_stays.specs.Stays.{mode_behind}
use Rattle.trace_stays.specs.Traces.{mode_behind_all, mode_with_line, modes_in}
use Rattle.trace_stays.specs.declared.stay.HeldMode.{HeldMode}
use Rattle.trace_windows.specs.Uses.{one_if}
use Rattle.view_laws.specs.Modes.{is_held, is_same_mode, mode_in}
use Rattle.view_laws.specs.Shown.{mode_of}
use Rattle.view_laws.specs.Spent.{name_of_item, name_of_row}
use Rattle.view_laws.proofs.Modes.{mode_in_tick}
use Rattle.view_laws.proofs.OfRuns.{sourced}
use Rattle.view_laws.proofs.Run.{run_order, run_up_to}
use Rattle.view_laws.proofs.Shown.{mode_is_told}

-- ---- a mode that is held

abbrev IsHeld : Option HeldMode → Type 0
IsHeld None = ⊥
IsHeld (Some h) = Unit {0}

behind_held : (o : Option HeldMode) (m : Mode) (z : ℕ) → IsHeld (mode_behind o m z)
behind_held None m z = tt
behind_held (Some h) m z = tt

kind_held : (b : Bool) (kind : EventKind) (z : ℕ) (o : Option HeldMode) → IsHeld o → IsHeld (if b then mode_with kind z o else o)
kind_held false kind z o h = h
kind_held true (event.Mode m) z o h = behind_held o m z
kind_held true (event.State who s) z o h = h
kind_held true (event.Return who service code) z o h = h
kind_held true (event.Error e who r) z o h = h
kind_held true (event.Report who words) z o h = h
kind_held true (event.Move port words) z o h = h
kind_held true (event.Arrive port words) z o h = h
kind_held true (event.Lost port words) z o h = h
kind_held true (event.Out channel words) z o h = h

-- it stays held
still_held : (lines : List Event) (name : List ℕ) (o : Option HeldMode) → IsHeld o → IsHeld (mode_behind_all lines name o)
still_held [] name o h = h
still_held (e ∷ es) name o h = still_held es name (mode_with_line e name o) (kind_held (is_of name e.partition) e.kind e.tick.0 o h)

both_behind : (a b : List Event) (name : List ℕ) (o : Option HeldMode) → mode_behind_all (a ++ b) name o ≡ mode_behind_all b name (mode_behind_all a name o)
both_behind [] b name o = refl
both_behind (e ∷ a) b name o = both_behind a b name (mode_with_line e name o)

-- ---- with its first start a partition has a mode

module _ {C : Type 0} (at : At) (c : StartCondition) where
  start_held : (x : Member C) (name : List ℕ) (o : Option HeldMode) → name_of x ≡ name → IsHeld (mode_behind_all (start_lines at c x) name o)
  start_held x name o is =
      let own : same (name_of x) name ≡ true = ap (λ (n : List ℕ). same n name) is ∙ name_itself name in
      still_held (line (name_of x) at (event.State Init Ready) ∷ []) name (mode_with_line (line (name_of x) at (event.Mode mode.ColdStart)) name o)
      (subst (λ (b : Bool). IsHeld (if b then mode_behind o mode.ColdStart at.now.0 else o)) (sym own) (behind_held o mode.ColdStart at.now.0))

  starts_held : (ms : List (Member C)) (name : List ℕ) (place : ℕ) (x : Member C) (o : Option HeldMode) → slice_get ms place ≡ Some x → name_of x ≡ name → IsHeld (mode_behind_all (flat_map (start_lines at c) ms) name o)
  starts_held [] name place x o e is = absurd (none-some x e)
  starts_held (y ∷ ys) name zero x o e is =
      subst IsHeld (sym (both_behind (start_lines at c y) (flat_map (start_lines at c) ys) name o))
      (still_held (flat_map (start_lines at c) ys) name (mode_behind_all (start_lines at c y) name o) (start_held y name o (ap name_of (same_Some y x e) ∙ is)))
  starts_held (y ∷ ys) name (suc place) x o e is =
      subst IsHeld (sym (both_behind (start_lines at c y) (flat_map (start_lines at c) ys) name o)) (starts_held ys name place x (mode_behind_all (start_lines at c y) name o) e is)

module _ {C : Type 0} (m : Module C) (devices : List DeviceLine) (n until t place : ℕ) (name : List ℕ) (kernel_mode : Mode) (l : t < n) (u : t < until) (here : slice_get (map name_of m.members) place ≡ Some name)
    (tells : (told name (trace m devices (suc t))).mode ≡ kernel_mode) where
  held : Option HeldMode
  held = mode_behind_all (trace m devices (suc t)) name None

  is_there : IsHeld (mode_behind_all (trace m devices (suc t)) name None)
  is_there = by_member (slice_get m.members place) refl
    where
      rest : List Event
      rest = trace_from m.plan devices (suc t) (Some first_tick) (starts_all first_tick condition.NormalStart m.members).state

      by_member : (o : Option (Member C)) → slice_get m.members place ≡ o → IsHeld (mode_behind_all (trace m devices (suc t)) name None)
      by_member None e = absurd (none-some name (sym (slice_get-map name_of m.members place ∙ ap (option_map name_of) e) ∙ here))
      by_member (Some x) e =
          let is = same_Some (name_of x) name (sym (slice_get-map name_of m.members place ∙ ap (option_map name_of) e) ∙ here) in
          let started = flat_map (start_lines first_tick condition.NormalStart) m.members in
          subst IsHeld (sym (both_behind started rest name None)) (still_held rest name (mode_behind_all started name None) (starts_held first_tick condition.NormalStart m.members name place x None e is))

  so_held : (k : Mode) (o : Option HeldMode) → IsHeld o → mode_of o ≡ kernel_mode → is_held k o ≡ is_same_mode k kernel_mode
  so_held k None h e = absurd h
  so_held k (Some y) h e = ap (is_same_mode k) e

  pub run_mode : (k : Mode) → mode_in k t (modes_in (trace m devices n) until name None) ≡ one_if (is_same_mode k kernel_mode)
  run_mode k =
      mode_in_tick (trace m devices n) name k until t (run_order m devices n) u
      ∙ ap (λ (lines : List Event). one_if (is_held k (mode_behind_all lines name None))) (run_up_to m devices n t l)
      ∙ ap one_if (so_held k (mode_behind_all (trace m devices (suc t)) name None) is_there (mode_is_told (trace m devices (suc t)) name ∙ tells))

pub image_mode : (image : Image) (devices : List DeviceLine) (n until t p : ℕ) (item : Item) (x : Member MachineControl) (k : Mode) → IsLawful image → t < n → t < until → at_number image.items p ≡ Some item
    → at_number (members_after (machine_module image) devices (suc t)) p ≡ Some x → mode_in k t (modes_in (machine_trace image devices n) until item.partition.name None) ≡ one_if (is_same_mode k x.world.kernel.mode)
image_mode image devices n until t zero item x k lawful l u here found = absurd (none-some item here)
image_mode image devices n until t (suc place) item x k lawful l u here found =
    let tells = image_tells image devices (suc t) (suc place) item x lawful here found in
    let named = members_named (costs_of image.version) image.schedule 1 image.items in
    let there = subst (λ (ns : List (List ℕ)). slice_get ns place ≡ Some item.partition.name) (sym named) (slice_get-map name_of_item image.items place ∙ ap (option_map name_of_item) here) in
    run_mode (machine_module image) devices n until t place item.partition.name x.world.kernel.mode l u there tells.mode k

pub module_mode : (table : List ℕ) (sources : List (List ℕ)) (t : Table) (programs : List Program) (devices : List DeviceLine) (n until i p : ℕ) (row : Partition) (x : Member SourceControl) (k : Mode)
    → IsModule table sources t programs → i < n → i < until → at_number t.partitions p ≡ Some row
    → at_number (members_after (source_module t programs) devices (suc i)) p ≡ Some x → mode_in k i (modes_in (source_trace t programs devices n) until row.name None) ≡ one_if (is_same_mode k x.world.kernel.mode)
module_mode table sources t programs devices n until i zero row x k accepted l u here found = absurd (none-some row here)
module_mode table sources t programs devices n until i (suc place) row x k accepted l u here found =
    let tells = module_tells table sources t programs devices (suc i) accepted (suc place) row x here found in
    let named = sourced t.costs t.schedule 1 t.partitions sources programs accepted.accepted in
    let there = subst (λ (ns : List (List ℕ)). slice_get ns place ≡ Some row.name) (sym named) (slice_get-map name_of_row t.partitions place ∙ ap (option_map name_of_row) here) in
    run_mode (source_module t programs) devices n until i place row.name x.world.kernel.mode l u there tells.mode k
