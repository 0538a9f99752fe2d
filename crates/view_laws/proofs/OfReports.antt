-- The report of the lines of a run tells what the kernel did in it.
use Rattle.std.proofs.Common.{◌≡◌, ◌<◌, ◌≤◌, ℕ, zero, suc, Bool, true, false, List, [], ◌∷◌, inl, inr, Option, Some, None, refl, sym, ap, ◌∙◌, subst, arith}
use Rattle.std.specs.Prelude.{◌-◌, ◌&&◌, not, is_some}
use Rattle.std.proofs.lemmas.Bool.{false≢true}
use Rattle.std.proofs.lemmas.List.{length-map}
use Rattle.apex_types.specs.Limits.{MOST_TICKS}
use Rattle.apex_types.specs.Line.{subject_text}
use Rattle.apex_types.specs.declared.codes.Mode.{Mode}
use Rattle.apex_types.specs.declared.codes.ProcessState.{ProcessState}
use Rattle.apex_types.specs.declared.codes.ProcessState.TheVariants.{Dormant, Ready, Running, Waiting}
use Rattle.apex_types.specs.declared.codes.StartCondition.{StartCondition}
use Rattle.apex_types.specs.declared.codes.StartCondition.TheVariants as condition
use Rattle.apex_types.specs.declared.device.DeviceLine.{DeviceLine}
use Rattle.apex_types.specs.declared.event.Event.{Event}
use Rattle.apex_types.specs.declared.event.Subject.{Subject}
use Rattle.apex_types.specs.declared.identity.Ticks.{Ticks}
use Rattle.kernel_laws.specs.History.{members_after}
use Rattle.kernel_meaning.specs.Partition.{Member}
use Rattle.kernel_meaning.specs.Windows.{Schedule}
use Rattle.machine_meaning.specs.Image.{Image, Item}
use Rattle.machine_meaning.specs.ImageLimits.{IsLawful}
use Rattle.machine_meaning.specs.MachineControl.{MachineControl}
use Rattle.machine_meaning.specs.MachineMeaning.{machine_module, machine_trace}
use Rattle.module_meaning.specs.Accepted.{IsModule}
use Rattle.module_meaning.specs.Module.{Module, trace}
use Rattle.module_meaning.specs.SourceMeaning.{source_module, source_trace}
use Rattle.module_meaning.specs.Table.{Partition, Table, at_number}
use Rattle.pal_meaning.specs.Program.{Program}
use Rattle.pal_meaning.specs.SourceControl.{SourceControl}
use Rattle.state_laws.specs.Starts.{starts_in}
use Rattle.state_laws.specs.Told.{Start, first_told, told}
use Rattle.state_laws.proofs.Members.{AreSaidBy}
use Rattle.state_laws.proofs.OfImages.{image_said, image_starts}
use Rattle.state_laws.proofs.OfModules.{module_said, module_starts}
use Rattle.trace_stays.specs.Stays.{span}
use Rattle.trace_stays.specs.Traces.{modes_in, stays_in}
use Rattle.trace_stays.specs.declared.span.Span.{Span}
use Rattle.trace_view.specs.Counting.{capped}
use Rattle.trace_view.specs.Extents.{closed, extent_after, opened}
use Rattle.trace_view.specs.Partitions.{no_partition, partition_total}
use Rattle.trace_view.specs.Processes.{Process, no_process, process_ended}
use Rattle.trace_view.specs.Reports.{AreSharesIn, IsReportOf, lines_read}
use Rattle.trace_view.specs.Starts.{told_first}
use Rattle.trace_view.specs.Turns as turns
use Rattle.trace_view.specs.Whole.{AreShown, partition_in, process_at, process_in, ticks_of_lines}
use Rattle.trace_view.specs.declared.partitions.PartitionRow.{PartitionRow}
use Rattle.trace_view.specs.declared.report.PartitionTotal.{PartitionTotal}
use Rattle.trace_view.specs.declared.report.ProcessTotal.{ProcessTotal}
use Rattle.trace_view.specs.declared.report.Report.{Report}
use Rattle.trace_view.specs.declared.tally.Tally.{Tally}
use Rattle.trace_windows.specs.Runs.{AreBefore, AreSharesOf}
use Rattle.trace_windows.specs.Standings.{at_first, in_run}
use Rattle.trace_windows.specs.Uses.{one_if, use_of}
use Rattle.trace_windows.specs.declared.shares.Shares.{Shares}
use Rattle.view_laws.specs.Counted.{AreBeforeTick, running_counted, state_counted}
use Rattle.view_laws.specs.Modes.{has_mode, is_in_mode, mode_counted, mode_in, ticks_for}
use Rattle.view_laws.specs.Reports.{AreSharesSpent, AreWindowsOf, TellsMachines, TellsModules, TellsRun, ticks_shown}
use Rattle.view_laws.specs.Shown.{HasOwnWord}
use Rattle.view_laws.specs.Starts as starts
use Rattle.view_laws.specs.Starts.{is_with, starts_for, starts_when, starts_with}
use Rattle.view_laws.specs.Spent.{AreSpent, name_of_item, name_of_row, names_of_image, names_of_table, use_in}
use Rattle.view_laws.specs.Ticks.{ends_in_state, is_resting, is_running, is_same_state, is_state, rests_in_state, running_in, runs_in_tick, state_in, state_in_run, ticks_when, works_in_tick}
use Rattle.view_laws.proofs.Begun.{condition_shown_so, mode_shown_so}
use Rattle.view_laws.proofs.Closing.{AreFew, Closes, begins_there, closes, read_all, read_none, read_up_to, rows_alike}
use Rattle.view_laws.proofs.Counted.{counted_runs, run_counted, run_early, run_part, run_word}
use Rattle.view_laws.proofs.Lines.{AreUpTo, up_to_are}
use Rattle.view_laws.proofs.ModeTallies.{counted_modes}
use Rattle.view_laws.proofs.ModesCounted as modes
use Rattle.view_laws.proofs.ModesOfRuns.{image_mode, module_mode}
use Rattle.view_laws.proofs.OfRuns.{before_in_order, image_many, image_uses, module_many, module_uses, named_row, run_before, shares_so, there_too}
use Rattle.view_laws.proofs.OfTicks.{ShowTicks, image_ticks, module_ticks}
use Rattle.view_laws.proofs.Run.{run_members, run_order, run_up_to}
use Rattle.view_laws.proofs.StateSums.{counted_least, counted_most, of_record}
use Rattle.view_laws.proofs.StatesOfRuns.{image_most, image_state, module_most, module_state}

-- ---- rows

state_shown : (wanted : ProcessState) (p : Process) (o : Option ProcessTotal) → AreShown p o → ticks_shown wanted o ≡ turns.ticks_for wanted p.tally.ticks
state_shown wanted p None h = none wanted ∙ ap (λ (q : Process). turns.ticks_for wanted q.tally.ticks) (sym h)
  where
    none : (w : ProcessState) → 0 ≡ turns.ticks_for w no_process.tally.ticks
    none Running = refl
    none Ready = refl
    none Waiting = refl
    none Dormant = refl
state_shown wanted p (Some row) h = ap (λ (t : Tally). turns.ticks_for wanted t.ticks) h.0

not_running : (s : ProcessState) → is_resting s ≡ true → is_running s ≡ false
not_running Running e = absurd (false≢true e)
not_running Ready e = refl
not_running Waiting e = refl
not_running Dormant e = refl

-- ---- the lines of a run

few_lines : (n : ℕ) (lines : List Event) → n ≤ MOST_TICKS → AreUpTo n lines → AreFew lines
few_lines n [] l h = tt
few_lines n (e ∷ es) l h = let a = h.0 in (omega (arith, a, l), few_lines n es l h.1)

up_to_of : (n : ℕ) (lines : List Event) → AreBeforeTick n lines → AreUpTo n lines
up_to_of n [] h = tt
up_to_of n (e ∷ es) h = let a = h.0 in (omega (arith, a), up_to_of n es h.1)

run_few : {C : Type 0} (m : Module C) (devices : List DeviceLine) (n : ℕ) → n ≤ MOST_TICKS → AreFew (trace m devices n)
run_few m devices zero few = tt
run_few m devices (suc n) few = few_lines n (trace m devices (suc n)) (omega (arith, few)) (subst (AreUpTo n) (run_up_to m devices (suc n) n (omega arith)) (up_to_are n (trace m devices (suc n))))

module _ {C : Type 0} (m : Module C) (devices : List DeviceLine) (n : ℕ) (few : n ≤ MOST_TICKS) where
  abbrev lines : List Event
  lines = trace m devices n

  module _ (window closing : Span) (closes_so : Closes window closing lines) (inside : closing.until.0 ≤ n) where
    abbrev from : ℕ
    from = closing.from.0

    abbrev until : ℕ
    until = closing.until.0

    soon : until ≤ MOST_TICKS
    soon = omega (arith, inside, few)

    -- a runner
    running_told : (name : List ℕ) (who : Subject) (runs : ℕ → Bool) → HasOwnWord lines who
        → ((k u t : ℕ) → k ≤ MOST_TICKS → t < k → t < u → HasOwnWord (trace m devices k) who → running_in t (stays_in (trace m devices k) u name (subject_text who) None) ≡ one_if (runs t))
        → running_counted window closing lines name who ≡ ticks_when runs from (until - from)
    running_told name who runs own shown = elim closes_so [
      | inl same ↦ ap (λ (w : Span). running_counted w closing lines name who) same ∙ run_counted m devices n name who runs few own (λ k t enough before word. shown k k t enough before before word) from until inside
      | inr h ↦ counted_runs window lines name who runs from until (ap (λ (t : Ticks). t.0) h.0) h.1 soon h.2 (λ t before. shown n until t few (omega (arith, before, inside)) before own)
    ]

    -- another state
    module _ (name : List ℕ) (who : Subject) (wanted : ProcessState) (is : ℕ → Bool) (own : HasOwnWord lines who)
        (most : (k u t : ℕ) → k ≤ MOST_TICKS → t < k → t < u → u ≤ until → HasOwnWord (trace m devices k) who → state_in wanted t (stays_in (trace m devices k) u name (subject_text who) None) ≤ one_if (is t)) where
      before_end : (same : window ≡ closing) → state_counted wanted window closing lines name who ≡ state_counted wanted closing (span from until) (trace m devices until) name who
      before_end same =
          ap (λ (w : Span). state_counted wanted w closing lines name who) same
          ∙ ap (λ (p : Process). turns.ticks_for wanted (process_ended closing p).tally.ticks) (run_part m devices n closing until name (subject_text who) refl inside)

      state_most : state_counted wanted window closing lines name who ≤ ticks_when is from (until - from)
      state_most = elim closes_so [
        | inl same ↦
            let e = before_end same in
            let l = counted_most wanted closing (trace m devices until) name who from until refl (omega arith) soon (run_early m devices n until inside) is
            (λ t before. most until until t soon before before (omega arith) (run_word m devices n until who inside own)) in
            omega (arith, e, l)
        | inr h ↦ counted_most wanted window lines name who from until (ap (λ (t : Ticks). t.0) h.0) h.1 soon h.2 is (λ t before. most n until t few (omega (arith, before, inside)) before (omega arith) own)
      ]

      state_least : (rests : ℕ → Bool)
          → ((k u t : ℕ) → k ≤ MOST_TICKS → t < k → t < u → u ≤ until → HasOwnWord (trace m devices k) who → one_if (rests t) ≤ state_in wanted t (stays_in (trace m devices k) u name (subject_text who) None))
          → ticks_when rests from (until - from) ≤ state_counted wanted window closing lines name who
      state_least rests least = elim closes_so [
        | inl same ↦
            let e = before_end same in
            let l = counted_least wanted closing (trace m devices until) name who from until refl (omega arith) soon (run_early m devices n until inside) is
            (λ t before. most until until t soon before before (omega arith) (run_word m devices n until who inside own)) rests
            (λ t before. least until until t soon before before (omega arith) (run_word m devices n until who inside own)) in
            omega (arith, e, l)
        | inr h ↦ counted_least wanted window lines name who from until (ap (λ (t : Ticks). t.0) h.0) h.1 soon h.2 is (λ t before. most n until t few (omega (arith, before, inside)) before (omega arith) own) rests
            (λ t before. least n until t few (omega (arith, before, inside)) before (omega arith) own)
      ]

    -- a mode
    mode_told : (name : List ℕ) (k : Mode) (is : ℕ → Bool) → ((j u t : ℕ) → t < j → t < u → mode_in k t (modes_in (trace m devices j) u name None) ≡ one_if (is t))
        → mode_counted window closing lines name k ≡ ticks_when is from (until - from)
    mode_told name k is shown = elim closes_so [
      | inl same ↦ ap (λ (w : Span). mode_counted w closing lines name k) same ∙ modes.run_counted m devices n name k is few (λ j t before. shown j j t before before) from until inside
      | inr h ↦
          ap (λ (p : PartitionRow). ticks_for k (partition_total closing p).modes) (rows_alike window closing h.0 h.1 told_first lines (no_partition name) h.2 tt)
          ∙ counted_modes lines name k is from until soon h.2 (λ t before. shown n until t (omega (arith, before, inside)) before)
    ]

    -- the starts
    module _ (name : List ℕ) (given : (k : ℕ) → AreSaidBy name (Some condition.NormalStart) first_told (trace m devices k)) where
      row_told : partition_in window told_first lines (no_partition name) ≡ partition_in closing told_first (trace m devices until) (no_partition name)
      row_told = elim closes_so [
        | inl same ↦ ap (λ (w : Span). partition_in w told_first lines (no_partition name)) same ∙ row_until
        | inr h ↦ rows_alike window closing h.0 h.1 told_first lines (no_partition name) h.2 tt ∙ row_until
      ]
        where
          row_until : partition_in closing told_first lines (no_partition name) ≡ partition_in closing told_first (trace m devices until) (no_partition name)
          row_until = modes.row_part m devices n name closing until refl inside

      early : AreBeforeTick until (trace m devices until)
      early = run_early m devices n until inside

      started_told : (k : Mode) → starts_for k (partition_in window told_first lines (no_partition name)).starts ≡ capped (starts_when (starts.is_in_mode k) from (told name (trace m devices until)).starts)
      started_told k = ap (λ (p : PartitionRow). starts_for k p.starts) row_told ∙ mode_shown_so closing name (trace m devices until) (given until) early k

      condition_told : (k : StartCondition) → starts_with k (partition_in window told_first lines (no_partition name)).starts.conditions ≡ capped (starts_when (is_with k) from (told name (trace m devices until)).starts)
      condition_told k = ap (λ (p : PartitionRow). starts_with k p.starts.conditions) row_told ∙ condition_shown_so closing name (trace m devices until) (given until) early k

    -- what the processor did
    lines_of_run : (k : ℕ) × (lines_read window lines ≡ trace m devices k) × (until ≤ k) × (k ≤ n) × AreBefore until 0 (trace m devices k)
    lines_of_run = elim closes_so [
      | inl same ↦ (until, ap (λ (w : Span). lines_read w lines) same ∙ given until refl inside, omega arith, inside, run_before m devices until until (omega arith) soon)
      | inr h ↦ (n, read_all window until lines h.1 h.2, inside, omega arith, before_in_order until 0 lines soon (omega arith) (run_order m devices n) (up_to_of until lines h.2))
    ]
      where
        given : (u : ℕ) → closing.until.0 ≡ u → u ≤ n → lines_read closing lines ≡ trace m devices u
        given zero is l = read_none closing lines is (run_order m devices n)
        given (suc t) is l = read_up_to closing t 0 lines is (run_order m devices n) ∙ run_up_to m devices n t (omega (arith, l))

    module _ (names : List (List ℕ)) (uses : (k t : ℕ) → t < k → k ≤ MOST_TICKS → use_of m.plan.schedule (at_first names) (trace m devices k) t ≡ use_in m devices t) where
      spent_by : (s : Shares) → AreSharesIn (Some (m.plan.schedule, names)) from (in_run until) (lines_read window lines) (Some s) → AreSpent m devices from until s.counted.rows.items
      spent_by s h =
          let r = lines_of_run in
          let k : ℕ = r.0 in
          let below = r.2 in
          let least = r.3 in
          let enough : k ≤ MOST_TICKS = omega (arith, least, few) in
          let is : in_run until ≡ until = omega (arith, inside, few) in
          let all : AreSharesOf m.plan.schedule names from until (trace m devices k) s.counted.rows.items =
          subst (λ (ls : List Event). AreBefore until 0 ls → AreSharesOf m.plan.schedule names from until ls s.counted.rows.items) r.1
          (subst (λ (u : ℕ). AreBefore u 0 (lines_read window lines) → AreSharesOf m.plan.schedule names from u (lines_read window lines) s.counted.rows.items) is h) r.4 in
          shares_so m.plan.schedule names (use_in m devices) (trace m devices k) from until k s.counted.rows.items below enough (λ t before. uses k t before enough) all

      shares_told : (windows : Option (Schedule × List (List ℕ))) (o : Option Shares) → AreWindowsOf m.plan.schedule names windows → AreSharesIn windows from (in_run until) (lines_read window lines) o → AreSharesSpent m devices from until o
      shares_told None None given h = tt
      shares_told None (Some s) given h = absurd h
      shares_told (Some w) None given h = absurd h
      shares_told (Some w) (Some s) given h =
          spent_by s (subst (λ (ns : List (List ℕ)). AreSharesIn (Some (m.plan.schedule, ns)) from (in_run until) (lines_read window lines) (Some s)) given.1
          (subst (λ (x : Schedule). AreSharesIn (Some (x, w.1)) from (in_run until) (lines_read window lines) (Some s)) given.0 h))

  -- ---- a report

  module _ (names : List (List ℕ)) (first : Ticks) (to : Option Ticks) (windows : Option (Schedule × List (List ℕ))) (report : Report)
      (uses : (k t : ℕ) → t < k → k ≤ MOST_TICKS → use_of m.plan.schedule (at_first names) (trace m devices k) t ≡ use_in m devices t)
      (shows : ShowTicks m devices names)
      (start_is : (k p : ℕ) (name : List ℕ) → at_number names p ≡ Some name → ((told name (trace m devices k)).starts ≡ starts_in m devices p k) × AreSaidBy name (Some condition.NormalStart) first_told (trace m devices k))
      (given : AreWindowsOf m.plan.schedule names windows) (is : IsReportOf first to windows lines report) (inside : report.extent.window.until.0 ≤ n) where
    abbrev closing : Span
    closing = (closed to (extent_after (opened first to) (ticks_of_lines lines))).window

    abbrev known : List ℕ → Subject → Process
    known name who = process_ended closing (process_in (opened first to).window lines name (subject_text who) no_process)

    ends : report.extent.window.until.0 ≡ closing.until.0
    ends = ap (λ x. x.window.until.0) is.extent

    within : closing.until.0 ≤ n
    within = let e = ends in omega (arith, e, inside)

    so : Closes (opened first to).window closing lines
    so = closes first to lines (run_order m devices n) (run_few m devices n few) (let l = within in omega (arith, l, few))

    begin : closing.from.0 ≡ first.0
    begin = ap (λ (t : Ticks). t.0) (begins_there first to lines)

    told_there : TellsRun m devices lines names closing.from.0 closing.until.0 report
    told_there = record {
      spent = shares_told (opened first to).window closing so within names uses windows report.shares given
          (subst (λ (f : ℕ). AreSharesIn windows f (in_run closing.until.0) (lines_read (opened first to).window lines) report.shares) (sym begin) is.shares);
      running = λ p name who here own.
          state_shown Running (known name who) (process_at name (subject_text who) report.processes.items) (is.processes.numbers name (subject_text who))
          ∙ running_told (opened first to).window closing so within name who (runs_in_tick m devices p who) own (λ k u t enough before shown word. shows.runs k u t p name who here enough before shown word);
      others = λ p name who wanted here own there other.
          let e = state_shown wanted (known name who) (process_at name (subject_text who) report.processes.items) (is.processes.numbers name (subject_text who)) in
          let l = state_most (opened first to).window closing so within name who wanted (ends_in_state m devices p who wanted) own
          (λ k u t enough before shown in_it word. shows.most k u t p name who wanted here enough before shown word (there t (omega (arith, shown, in_it))) other) in
          omega (arith, e, l);
      resting = λ p name who wanted here own there rests.
          let e = state_shown wanted (known name who) (process_at name (subject_text who) report.processes.items) (is.processes.numbers name (subject_text who)) in
          let l = state_least (opened first to).window closing so within name who wanted (ends_in_state m devices p who wanted) own
          (λ k u t enough before shown in_it word. shows.most k u t p name who wanted here enough before shown word (there t (omega (arith, shown, in_it))) (not_running wanted rests))
          (rests_in_state m devices p who wanted) (λ k u t enough before shown in_it word. shows.least k u t p name who wanted here enough before shown word (there t (omega (arith, shown, in_it))) rests) in
          omega (arith, e, l);
      modes = λ p name x here.
          ap (λ (r : PartitionTotal). ticks_for x r.modes) (is.partitions.numbers name)
          ∙ mode_told (opened first to).window closing so within name x (is_in_mode m devices p x) (λ k u t before shown. shows.mode_is k u t p name x here before shown);
      starts = λ p name x here.
          ap (λ (r : PartitionTotal). starts_for x r.starts) (is.partitions.numbers name)
          ∙ started_told (opened first to).window closing so within name (λ k. let s = start_is k p name here in s.1) x
          ∙ ap (λ (ss : List Start). capped (starts_when (starts.is_in_mode x) closing.from.0 ss)) (let s = start_is closing.until.0 p name here in s.0);
      conditions = λ p name x here.
          ap (λ (r : PartitionTotal). starts_with x r.starts.conditions) (is.partitions.numbers name)
          ∙ condition_told (opened first to).window closing so within name (λ k. let s = start_is k p name here in s.1) x
          ∙ ap (λ (ss : List Start). capped (starts_when (is_with x) closing.from.0 ss)) (let s = start_is closing.until.0 p name here in s.0);
    }

    pub report_tells : TellsRun m devices lines names first.0 report.extent.window.until.0 report
    report_tells = subst (λ (u : ℕ). TellsRun m devices lines names first.0 u report) (sym ends) (subst (λ (f : ℕ). TellsRun m devices lines names f closing.until.0 report) begin told_there)

-- ---- images and modules

image_report : (image : Image) (devices : List DeviceLine) (n : ℕ) (from : Ticks) (to : Option Ticks) (windows : Option (Schedule × List (List ℕ))) (report : Report) → IsLawful image → n ≤ MOST_TICKS
    → AreWindowsOf image.schedule (names_of_image image) windows → IsReportOf from to windows (machine_trace image devices n) report → report.extent.window.until.0 ≤ n
    → TellsRun (machine_module image) devices (machine_trace image devices n) (names_of_image image) from.0 report.extent.window.until.0 report
image_report image devices n from to windows report lawful few given is inside =
    report_tells (machine_module image) devices n few (names_of_image image) from to windows report
    (λ k t before enough. image_uses image devices k t lawful before enough)
    (image_ticks image devices lawful)
    (λ k p name here.
    let r = named_row name_of_item image.items p name here in
    let c = r.1 in
    subst (λ (y : List ℕ). ((told y (machine_trace image devices k)).starts ≡ starts_in (machine_module image) devices p k) × AreSaidBy y (Some condition.NormalStart) first_told (machine_trace image devices k)) c.1
    (image_starts image devices k lawful p r.0 c.0, image_said image devices k lawful p r.0 c.0))
    given is inside

module_report : (table : List ℕ) (sources : List (List ℕ)) (t : Table) (programs : List Program) (devices : List DeviceLine) (n : ℕ) (from : Ticks) (to : Option Ticks) (windows : Option (Schedule × List (List ℕ))) (report : Report)
    → IsModule table sources t programs → n ≤ MOST_TICKS → AreWindowsOf t.schedule (names_of_table t) windows → IsReportOf from to windows (source_trace t programs devices n) report → report.extent.window.until.0 ≤ n
    → TellsRun (source_module t programs) devices (source_trace t programs devices n) (names_of_table t) from.0 report.extent.window.until.0 report
module_report table sources t programs devices n from to windows report accepted few given is inside =
    report_tells (source_module t programs) devices n few (names_of_table t) from to windows report
    (λ k i before enough. module_uses table sources t programs devices k i accepted before enough)
    (module_ticks table sources t programs devices accepted)
    (λ k p name here.
    let r = named_row name_of_row t.partitions p name here in
    let c = r.1 in
    subst (λ (y : List ℕ). ((told y (source_trace t programs devices k)).starts ≡ starts_in (source_module t programs) devices p k) × AreSaidBy y (Some condition.NormalStart) first_told (source_trace t programs devices k)) c.1
    (module_starts table sources t programs devices k accepted p r.0 c.0, module_said table sources t programs devices k accepted p r.0 c.0))
    given is inside

-- ---- a report of lines, if they are those of a run

pub machines_told : (AreIts : List Event → Type 0) (from : Ticks) (to : Option Ticks) (windows : Option (Schedule × List (List ℕ))) (report : Report)
    → ((lines : List Event) → AreIts lines → IsReportOf from to windows lines report) → TellsMachines AreIts from windows report
machines_told AreIts from to windows report is = λ image devices n lawful few given its inside. image_report image devices n from to windows report lawful few given (is (machine_trace image devices n) its) inside

pub modules_told : (AreIts : List Event → Type 0) (from : Ticks) (to : Option Ticks) (windows : Option (Schedule × List (List ℕ))) (report : Report)
    → ((lines : List Event) → AreIts lines → IsReportOf from to windows lines report) → TellsModules AreIts from windows report
modules_told AreIts from to windows report is = λ table sources t programs devices n accepted few given its inside.
    module_report table sources t programs devices n from to windows report accepted few given (is (source_trace t programs devices n) its) inside
