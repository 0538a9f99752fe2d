-- The trace of a built image is the trace of its sources.
use Rattle.module.proofs.Prelude.{◌≡◌, ℕ, ◌+◌, ℤ, Bool, List, ◌∷◌, map, Option, Some, None, refl, ap, is_some, option_map, Costs, DeviceLine, PortRow, section_of, Partition, Table, reading, Kernel, MachineControl, Program, source_trace, machine_member, machine_members, machine_trace, fixed_of, Schedule, built_items, built_image, AreCompiled}
use Rattle.std.proofs.Common.{[], subst}
use Rattle.apex_types.specs.declared.process.ProcessStatus.{ProcessStatus}
use Rattle.kernel_meaning.specs.Objects.{fresh_ports}
use Rattle.compiling_laws.specs.CompiledCode.{body_row, handler_place, process_rows, processes_place}
use Rattle.pal_meaning.specs.Program.{size_of_process}
use Rattle.kernel_meaning.specs.Kernel.{Fixed}
use Rattle.compiling_laws.specs.Lifting.{SameControls, SameMember, SameMembers, SameWorld}
use Rattle.pal_meaning.specs.Program.{Process}
use Rattle.compiling_laws.specs.Related.{Keeps}
use Rattle.pal_meaning.specs.SourceControl.{SourceControl}
use Rattle.kernel_meaning.specs.Fresh.{fresh_kernel, fresh_world, no_control_for}
use Rattle.module_meaning.specs.SourceMeaning.{source_row, source_objects, source_member, source_members}
use Rattle.machine_meaning.specs.MachineMeaning.{machine_row}
use Rattle.compiling_laws.proofs.Lifting.{trace_same}
use Rattle.compiling_laws.proofs.Starts.{compiled_correctly}
use Rattle.module.specs.Built.{IsCompiled}

rows_same : (at : ℕ) (ps : List Process) → map source_row ps ≡ map machine_row (process_rows at ps)
rows_same at [] = refl
rows_same at (p ∷ ps) = ap (λ (rows : List ProcessStatus). source_row p ∷ rows) (rows_same (at + size_of_process p) ps)

no_controls : {C D : Type 0} (R : C → D → Type 0) (rows : List ProcessStatus) → SameControls R (map no_control_for rows) (map no_control_for rows)
no_controls R [] = tt
no_controls R (row ∷ rows) = (tt, no_controls R rows)

fresh_same : {C D : Type 0} (R : C → D → Type 0) (k : Kernel) (initial : List ℤ) → SameWorld R (fresh_world k initial) (fresh_world k initial)
fresh_same R k initial = record { kernel = refl; controls = no_controls R k.processes.rows; words = refl; initial = refl }

abbrev Related : Program → SourceControl → MachineControl → Type 0
Related p c m = Keeps (map reading (section_of p).code) p.procedures c m

-- a section has a handler if its program has one
handler_same : (p : Program) → is_some p.handler ≡ is_some (section_of p).handler
handler_same p = one_too (body_row (handler_place p)) p.handler where
  one_too : {A B : Type 0} (f : A → B) (o : Option A) → is_some o ≡ is_some (option_map f o)
  one_too f None = refl
  one_too f (Some x) = refl

member_same : (costs : Costs) (fixed : Fixed) (ports : List PortRow) (p : Program) → IsCompiled p → SameMember (Related p) (source_member costs fixed ports p) (machine_member costs fixed ports (section_of p))
member_same costs fixed ports p h =
    let kernel = λ (rows : List ProcessStatus) (has_handler : Bool). fresh_kernel fixed rows (source_objects p) (fresh_ports ports) has_handler in
    let own = kernel (map source_row p.processes) (is_some p.handler) in
    record {
      engine = compiled_correctly p h.fits h.coded.code costs;
      world = subst (λ (b : Bool). SameWorld (Related p) (fresh_world own p.initial) (fresh_world (kernel (map machine_row (section_of p).processes) b) p.initial)) (handler_same p)
          (subst (λ (rows : List ProcessStatus). SameWorld (Related p) (fresh_world own p.initial) (fresh_world (kernel rows (is_some p.handler)) p.initial)) (rows_same (processes_place p) p.processes) (fresh_same (Related p) own p.initial));
    }

-- the programs of the partitions that have one
abbrev paired : List Partition → List Program → List Program
paired [] programs = []
paired (row ∷ rows) [] = []
paired (row ∷ rows) (p ∷ ps) = p ∷ paired rows ps

members_same : (costs : Costs) (schedule : Schedule) (number : ℕ) (rows : List Partition) (ps : List Program) → AreCompiled ps → SameMembers Related (paired rows ps) (source_members costs schedule number rows ps) (machine_members costs schedule number (built_items rows ps))
members_same costs schedule number [] ps h = tt
members_same costs schedule number (row ∷ rows) [] h = tt
members_same costs schedule number (row ∷ rows) (p ∷ ps) h = (member_same costs (fixed_of schedule number row) row.ports p h.0, members_same costs schedule (number + 1) rows ps h.1)

pub traces_same : (t : Table) (programs : List Program) (lines : List DeviceLine) (n : ℕ) → AreCompiled programs → source_trace t programs lines n ≡ machine_trace (built_image t programs) lines n
traces_same t programs lines n h = trace_same Related (record { schedule = t.schedule; channels = t.channels; fault = t.fault }) lines n (paired t.partitions programs) (source_members t.costs t.schedule 1 t.partitions programs) (machine_members t.costs t.schedule 1 (built_items t.partitions programs)) (members_same t.costs t.schedule 1 t.partitions programs h)
