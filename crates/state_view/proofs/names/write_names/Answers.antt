-- the rows of the declared names, and those of the runners
use Rattle.std.proofs.Common.{◌≡◌, ◌++◌, ◌∙◌, ℕ, ℤ, List, ap, map, subst}
use Rattle.std.specs.Prelude.{OnOk}
use Rattle.apex_types.specs.declared.process.ProcessStatus.{ProcessStatus}
use Rattle.apex_types.specs.declared.row.PortRow.{PortRow}
use Rattle.apex_types.specs.declared.row.RoutineRow.{RoutineRow}
use Rattle.kernel_meaning.specs.Kernel.{Kernel}
use Rattle.pal_base.specs.View.{declaration_of, texts}
use Rattle.pal_base.specs.declared.syntax.Declaration.{Declaration}
use Rattle.partition_base.specs.Machines.{controls_of}
use Rattle.partition_base.specs.declared.machine.PartitionProcessor.{PartitionProcessor}
use Rattle.state_rows.specs.Named.{declared_rows, runner_names}
use Rattle.state_rows.specs.Rows.{rows_in}
use Rattle.state_rows.specs.States.{placed}
use Rattle.state_view.proofs.Named.{two_on}
use Rattle.state_view.specs.Sources.{source_in}
use Rattle.state_view.proofs.names.write_names.Goals as goal

pub returns : goal.returns
returns c =
    let form = c.args.form in
    let mem = c.args.memory.now in
    let k = c.args.partition.now.kernel in
    let e = c.args.partition.now.executor in
    let s = source_in c.args.source.now in
    let names = texts c.args.source.now.program.now.names.keys in
    let ports = c.args.item.now.row.ports.items in
    let routines = c.args.item.now.section.routines.items in
    let declarations = c.args.source.now.program.now.declarations.items in
    let named : c.name-name.result ≡ k.fixed.name = c.name-name.ensures ∙ ap (λ (x : Kernel). x.fixed.name) c.kernel-kernel.ensures in
    let records : c.rows.result.now ≡ k.processes.rows = c.rows.ensures.all ∙ ap (λ ps. ps.rows) c.processes.ensures ∙ ap (λ (x : Kernel). x.processes.rows) c.kernel-kernel.ensures in
    let first : List ℕ → List PortRow → List ℤ → List Declaration → Type 0 = λ p ps ws ds. c.write_declared.new.text.items ≡ c.args.text.now.items ++ rows_in form (declared_rows p ps ws (map (declaration_of names) ds)) in
    let second : List ℕ → List RoutineRow → PartitionProcessor → List ProcessStatus → Type 0 = λ p rs x rows. OnOk c.write_chains.result (c.write_chains.new.text.items ≡ c.write_declared.new.text.items ++ rows_in form (placed (runner_names p rs s (controls_of x mem)) rows)) in
    let declared : first k.fixed.name ports mem.words declarations =
    subst (λ (p : List ℕ). first p ports mem.words declarations) named
    (subst (λ (ps : List PortRow). first c.name-name.result ps mem.words declarations) c.as_slice-ports.ensures.value
    (subst (λ (ws : List ℤ). first c.name-name.result c.as_slice-ports.result.now ws declarations) c.data.ensures
    (subst (λ (ds : List Declaration). first c.name-name.result c.as_slice-ports.result.now c.data.result.now ds) c.as_slice-declarations.ensures.value c.in_ok-write_declared.ensures))) in
    let chains : second k.fixed.name routines e k.processes.rows =
    subst (λ (p : List ℕ). second p routines e k.processes.rows) named
    (subst (λ (rs : List RoutineRow). second c.name-name.result rs e k.processes.rows) c.as_slice.ensures.value
    (subst (λ (x : PartitionProcessor). second c.name-name.result c.as_slice.result.now x k.processes.rows) c.executor.ensures
    (subst (λ (rows : List ProcessStatus). second c.name-name.result c.as_slice.result.now c.executor.result.now rows) records c.write_chains.ensures))) in
    two_on form (declared_rows k.fixed.name ports mem.words s.tree.declarations) (placed (runner_names k.fixed.name routines s (controls_of e mem)) k.processes.rows) _ _ _ _ declared chains
