use Rattle.std.proofs.Common.{◌≡◌, IfSome, Some, slice_get, sym, subst}
use Rattle.std.specs.Prelude.{Option}
use Rattle.apex_types.specs.declared.identity.Runner.{Runner}
use Rattle.apex_types.specs.declared.identity.Runner.TheVariants as runner
use Rattle.apex_types.specs.declared.process.ProcessStatus.{ProcessStatus}
use Rattle.kernel_meaning.specs.Processes.{Processes, row_of}
use Rattle.kernel_meaning.specs.Queues.{list_at}
use Rattle.process_table_base.proofs.Released.{first_is_least}
use Rattle.process_table_base.specs.LeastNumber.{IsLeast}
use Rattle.process_table_base.proofs.table.ProcessTable.first_waiting.Goals as goal

pub returns-in-Some-clause-least : goal.returns-in-Some-clause-least
returns-in-Some-clause-least c = λ disciplines number next h.
    let s = c.args.self.now in
    let k = c.args.list in
    let is : slice_get (list_at s.queues k) 0 ≡ Some c.in-Some.entry = subst (λ (t : Processes). slice_get (list_at t.queues k) 0 ≡ Some c.in-Some.entry) c.self.view_is (sym c.in-Some.ensures.value) in
    subst (λ (o : Option (Runner × ProcessStatus)). IfSome o (λ found. IsLeast (disciplines k) number (list_at s.queues k) found.0)) (sym c.numbered.ensures.found) (first_is_least disciplines number next k s.queues c.in-Some.entry (row_of s (runner.Process c.in-Some.entry.process)) is h)
