-- What the lines of a run show of each tick is what the kernel did in it, in a run of an image and of a module.
use Rattle.std.proofs.Common.{◌≡◌, ◌<◌, ◌≤◌, ℕ, zero, suc, Bool, true, false, List, [], ◌∷◌, inl, inr, Option, Some, None, refl, sym, ap, ◌∙◌, subst, arith}
use Rattle.std.specs.Prelude.{◌-◌, ◌&&◌, not, is_some}
use Rattle.std.proofs.lemmas.Bool.{false≢true}
use Rattle.std.proofs.lemmas.List.{length-map}
use Rattle.apex_types.specs.Limits.{MOST_TICKS}
use Rattle.apex_types.specs.Line.{subject_text}
use Rattle.apex_types.specs.declared.codes.Mode.{Mode}
use Rattle.apex_types.specs.declared.codes.ProcessState.{ProcessState}
use Rattle.apex_types.specs.declared.codes.ProcessState.TheVariants.{Dormant, Ready, Running, Waiting}
use Rattle.apex_types.specs.declared.device.DeviceLine.{DeviceLine}
use Rattle.apex_types.specs.declared.event.Event.{Event}
use Rattle.apex_types.specs.declared.event.Subject.{Subject}
use Rattle.apex_types.specs.declared.identity.Ticks.{Ticks}
use Rattle.kernel_laws.specs.History.{members_after}
use Rattle.kernel_meaning.specs.Partition.{Member}
use Rattle.kernel_meaning.specs.Windows.{Schedule}
use Rattle.machine_meaning.specs.Image.{Image, Item}
use Rattle.machine_meaning.specs.ImageLimits.{IsLawful}
use Rattle.machine_meaning.specs.MachineControl.{MachineControl}
use Rattle.machine_meaning.specs.MachineMeaning.{machine_module, machine_trace}
use Rattle.module_meaning.specs.Accepted.{IsModule}
use Rattle.module_meaning.specs.Module.{Module, trace}
use Rattle.module_meaning.specs.SourceMeaning.{source_module, source_trace}
use Rattle.module_meaning.specs.Table.{Partition, Table, at_number}
use Rattle.pal_meaning.specs.Program.{Program}
use Rattle.pal_meaning.specs.SourceControl.{SourceControl}
use Rattle.trace_stays.specs.Stays.{span}
use Rattle.trace_stays.specs.Traces.{modes_in, stays_in}
use Rattle.trace_stays.specs.declared.span.Span.{Span}
use Rattle.trace_view.specs.Extents.{closed, extent_after, opened}
use Rattle.trace_view.specs.Partitions.{no_partition, partition_total}
use Rattle.trace_view.specs.Processes.{Process, no_process, process_ended}
use Rattle.trace_view.specs.Reports.{AreSharesIn, IsReportOf, lines_read}
use Rattle.trace_view.specs.Starts.{told_first}
use Rattle.trace_view.specs.Turns as turns
use Rattle.trace_view.specs.Whole.{AreShown, process_at, process_in, ticks_of_lines}
use Rattle.trace_view.specs.declared.partitions.PartitionRow.{PartitionRow}
use Rattle.trace_view.specs.declared.report.PartitionTotal.{PartitionTotal}
use Rattle.trace_view.specs.declared.report.ProcessTotal.{ProcessTotal}
use Rattle.trace_view.specs.declared.report.Report.{Report}
use Rattle.trace_view.specs.declared.tally.Tally.{Tally}
use Rattle.trace_windows.specs.Runs.{AreBefore, AreSharesOf}
use Rattle.trace_windows.specs.Standings.{at_first, in_run}
use Rattle.trace_windows.specs.Uses.{one_if, use_of}
use Rattle.trace_windows.specs.declared.shares.Shares.{Shares}
use Rattle.view_laws.specs.Counted.{AreBeforeTick, running_counted, state_counted}
use Rattle.view_laws.specs.Modes.{has_mode, is_in_mode, mode_counted, mode_in, ticks_for}
use Rattle.view_laws.specs.Reports.{AreSharesSpent, AreWindowsOf, TellsMachines, TellsModules, TellsRun, ticks_shown}
use Rattle.view_laws.specs.Shown.{HasOwnWord}
use Rattle.view_laws.specs.Spent.{AreSpent, name_of_item, name_of_row, names_of_image, names_of_table, use_in}
use Rattle.view_laws.specs.Ticks.{ends_in_state, is_resting, is_running, is_same_state, is_state, rests_in_state, running_in, runs_in_tick, state_in, state_in_run, ticks_when, works_in_tick}
use Rattle.view_laws.proofs.Closing.{AreFew, Closes, begins_there, closes, read_all, read_none, read_up_to, rows_alike}
use Rattle.view_laws.proofs.Counted.{counted_runs, run_counted, run_early, run_part, run_word}
use Rattle.view_laws.proofs.Lines.{AreUpTo, up_to_are}
use Rattle.view_laws.proofs.ModeTallies.{counted_modes}
use Rattle.view_laws.proofs.ModesCounted as modes
use Rattle.view_laws.proofs.ModesOfRuns.{image_mode, module_mode}
use Rattle.view_laws.proofs.OfRuns.{before_in_order, image_many, image_uses, module_many, module_uses, named_row, run_before, shares_so, there_too}
use Rattle.view_laws.proofs.Run.{run_members, run_order, run_up_to}
use Rattle.view_laws.proofs.Running.{image_running, module_running}
use Rattle.view_laws.proofs.StateSums.{counted_least, counted_most, of_record}
use Rattle.view_laws.proofs.StatesOfRuns.{image_most, image_state, module_most, module_state}

-- What the lines of a run show of each tick, next to what the kernel did in it, for partitions with these names.
pub record ShowTicks {C : Type 0} (m : Module C) (devices : List DeviceLine) (names : List (List ℕ)) : Type 0 where
  pub runs : (k u t p : ℕ) (name : List ℕ) (who : Subject) → at_number names p ≡ Some name → k ≤ MOST_TICKS → t < k → t < u → HasOwnWord (trace m devices k) who
      → running_in t (stays_in (trace m devices k) u name (subject_text who) None) ≡ one_if (runs_in_tick m devices p who t)
  pub most : (k u t p : ℕ) (name : List ℕ) (who : Subject) (wanted : ProcessState) → at_number names p ≡ Some name → k ≤ MOST_TICKS → t < k → t < u → HasOwnWord (trace m devices k) who
      → is_some (state_in_run m devices p who t) ≡ true → is_running wanted ≡ false
      → state_in wanted t (stays_in (trace m devices k) u name (subject_text who) None) ≤ one_if (ends_in_state m devices p who wanted t)
  pub least : (k u t p : ℕ) (name : List ℕ) (who : Subject) (wanted : ProcessState) → at_number names p ≡ Some name → k ≤ MOST_TICKS → t < k → t < u → HasOwnWord (trace m devices k) who
      → is_some (state_in_run m devices p who t) ≡ true → is_resting wanted ≡ true
      → one_if (rests_in_state m devices p who wanted t) ≤ state_in wanted t (stays_in (trace m devices k) u name (subject_text who) None)
  pub mode_is : (k u t p : ℕ) (name : List ℕ) (x : Mode) → at_number names p ≡ Some name → t < k → t < u → mode_in x t (modes_in (trace m devices k) u name None) ≡ one_if (is_in_mode m devices p x t)

-- it is counted, or the runner spends the tick
rests_least : (a works : Bool) (n : ℕ) → (works ≡ false → n ≡ one_if a) → one_if (a && not works) ≤ n
rests_least true true n h = omega arith
rests_least false true n h = omega arith
rests_least true false n h = let e = h refl in omega (arith, e)
rests_least false false n h = omega arith

-- the partition after a tick
image_there : (image : Image) (devices : List DeviceLine) (t p : ℕ) (item : Item) → at_number image.items p ≡ Some item → (x : Member MachineControl) × (at_number (members_after (machine_module image) devices (suc t)) p ≡ Some x)
image_there image devices t p item here =
    there_too image.items (members_after (machine_module image) devices (suc t)) p item (sym (length-map image.items name_of_item) ∙ image_many image ∙ sym (run_members (machine_module image) devices (suc t))) here

module_there : (table : List ℕ) (sources : List (List ℕ)) (t : Table) (programs : List Program) (devices : List DeviceLine) (i : ℕ) → IsModule table sources t programs → (p : ℕ) (row : Partition) → at_number t.partitions p ≡ Some row
    → (x : Member SourceControl) × (at_number (members_after (source_module t programs) devices (suc i)) p ≡ Some x)
module_there table sources t programs devices i accepted p row here =
    there_too t.partitions (members_after (source_module t programs) devices (suc i)) p row (sym (length-map t.partitions name_of_row) ∙ module_many table sources t programs accepted ∙ sym (run_members (source_module t programs) devices (suc i))) here

pub image_ticks : (image : Image) (devices : List DeviceLine) → IsLawful image → ShowTicks (machine_module image) devices (names_of_image image)
image_ticks image devices lawful = record {
  runs = λ k u t p name who here enough before shown own.
      let r = named_row name_of_item image.items p name here in
      let c = r.1 in
      subst (λ (x : List ℕ). running_in t (stays_in (machine_trace image devices k) u x (subject_text who) None) ≡ one_if (runs_in_tick (machine_module image) devices p who t)) c.1
      (image_running image devices k u t p r.0 who lawful before shown enough c.0 own);
  most = λ k u t p name who wanted here enough before shown own there other.
      let r = named_row name_of_item image.items p name here in
      let c = r.1 in
      let x = image_there image devices t p r.0 c.0 in
      let h = of_record (machine_module image) devices p t who x.0 x.1
      (λ (w : Subject) (s : ProcessState). HasOwnWord (machine_trace image devices k) w → state_in wanted t (stays_in (machine_trace image devices k) u r.0.partition.name (subject_text w) None) ≤ one_if (is_same_state wanted s))
      (λ q row at word. image_most image devices k u t p r.0 x.0 q row wanted lawful before shown enough c.0 x.1 at word other) there in
      let e = ap (λ (o : Option ProcessState). one_if (is_state wanted o)) h.1 in
      let l = subst (λ (y : List ℕ). state_in wanted t (stays_in (machine_trace image devices k) u y (subject_text who) None) ≤ one_if (is_same_state wanted h.0)) c.1 (h.2 own) in
      omega (arith, e, l);
  least = λ k u t p name who wanted here enough before shown own there rests.
      let r = named_row name_of_item image.items p name here in
      let c = r.1 in
      let x = image_there image devices t p r.0 c.0 in
      let h = of_record (machine_module image) devices p t who x.0 x.1
      (λ (w : Subject) (s : ProcessState). HasOwnWord (machine_trace image devices k) w → works_in_tick (machine_module image) devices p w t ≡ false
      → state_in wanted t (stays_in (machine_trace image devices k) u r.0.partition.name (subject_text w) None) ≡ one_if (is_same_state wanted s))
      (λ q row at word idle. image_state image devices k u t p r.0 x.0 q row wanted lawful before shown enough c.0 x.1 at word rests idle) there in
      rests_least (is_state wanted (state_in_run (machine_module image) devices p who t)) (works_in_tick (machine_module image) devices p who t) _
      (λ idle. subst (λ (y : List ℕ). state_in wanted t (stays_in (machine_trace image devices k) u y (subject_text who) None) ≡ one_if (is_same_state wanted h.0)) c.1 (h.2 own idle)
      ∙ sym (ap (λ (o : Option ProcessState). one_if (is_state wanted o)) h.1));
  mode_is = λ k u t p name x here before shown.
      let r = named_row name_of_item image.items p name here in
      let c = r.1 in
      let there = image_there image devices t p r.0 c.0 in
      subst (λ (y : List ℕ). mode_in x t (modes_in (machine_trace image devices k) u y None) ≡ one_if (is_in_mode (machine_module image) devices p x t)) c.1
      (image_mode image devices k u t p r.0 there.0 x lawful before shown c.0 there.1 ∙ ap (λ (o : Option (Member MachineControl)). one_if (has_mode x o)) (sym there.1));
}

pub module_ticks : (table : List ℕ) (sources : List (List ℕ)) (t : Table) (programs : List Program) (devices : List DeviceLine) → IsModule table sources t programs → ShowTicks (source_module t programs) devices (names_of_table t)
module_ticks table sources t programs devices accepted = record {
  runs = λ k u i p name who here enough before shown own.
      let r = named_row name_of_row t.partitions p name here in
      let c = r.1 in
      subst (λ (x : List ℕ). running_in i (stays_in (source_trace t programs devices k) u x (subject_text who) None) ≡ one_if (runs_in_tick (source_module t programs) devices p who i)) c.1
      (module_running table sources t programs devices k u i p r.0 who accepted before shown enough c.0 own);
  most = λ k u i p name who wanted here enough before shown own there other.
      let r = named_row name_of_row t.partitions p name here in
      let c = r.1 in
      let x = module_there table sources t programs devices i accepted p r.0 c.0 in
      let h = of_record (source_module t programs) devices p i who x.0 x.1
      (λ (w : Subject) (s : ProcessState). HasOwnWord (source_trace t programs devices k) w → state_in wanted i (stays_in (source_trace t programs devices k) u r.0.name (subject_text w) None) ≤ one_if (is_same_state wanted s))
      (λ q row at word. module_most table sources t programs devices k u i p r.0 x.0 q row wanted accepted before shown enough c.0 x.1 at word other) there in
      let e = ap (λ (o : Option ProcessState). one_if (is_state wanted o)) h.1 in
      let l = subst (λ (y : List ℕ). state_in wanted i (stays_in (source_trace t programs devices k) u y (subject_text who) None) ≤ one_if (is_same_state wanted h.0)) c.1 (h.2 own) in
      omega (arith, e, l);
  least = λ k u i p name who wanted here enough before shown own there rests.
      let r = named_row name_of_row t.partitions p name here in
      let c = r.1 in
      let x = module_there table sources t programs devices i accepted p r.0 c.0 in
      let h = of_record (source_module t programs) devices p i who x.0 x.1
      (λ (w : Subject) (s : ProcessState). HasOwnWord (source_trace t programs devices k) w → works_in_tick (source_module t programs) devices p w i ≡ false
      → state_in wanted i (stays_in (source_trace t programs devices k) u r.0.name (subject_text w) None) ≡ one_if (is_same_state wanted s))
      (λ q row at word idle. module_state table sources t programs devices k u i p r.0 x.0 q row wanted accepted before shown enough c.0 x.1 at word rests idle) there in
      rests_least (is_state wanted (state_in_run (source_module t programs) devices p who i)) (works_in_tick (source_module t programs) devices p who i) _
      (λ idle. subst (λ (y : List ℕ). state_in wanted i (stays_in (source_trace t programs devices k) u y (subject_text who) None) ≡ one_if (is_same_state wanted h.0)) c.1 (h.2 own idle)
      ∙ sym (ap (λ (o : Option ProcessState). one_if (is_state wanted o)) h.1));
  mode_is = λ k u i p name x here before shown.
      let r = named_row name_of_row t.partitions p name here in
      let c = r.1 in
      let there = module_there table sources t programs devices i accepted p r.0 c.0 in
      subst (λ (y : List ℕ). mode_in x i (modes_in (source_trace t programs devices k) u y None) ≡ one_if (is_in_mode (source_module t programs) devices p x i)) c.1
      (module_mode table sources t programs devices k u i p r.0 there.0 x accepted before shown c.0 there.1 ∙ ap (λ (o : Option (Member SourceControl)). one_if (has_mode x o)) (sym there.1));
}
