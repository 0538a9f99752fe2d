use Rattle.lone_partition.proofs.Prelude.{rules, ◌≡◌, sym, idle_kernel, view}
use Rattle.lone_partition.proofs.Lawful.{loaded_member}
use Rattle.lone_partition.proofs.load.load_partition.Goals as goal

pub returns-clause-member : goal.returns-clause-member
returns-clause-member c =
    let kernel : c.in_ok-partition.partition.kernel ≡ idle_kernel (view c.args.fixed) c.args.item.now.row.ports.items c.args.item.now.section = search rules in
    rw c.in_ok-partition.ensures.executor
    (loaded_member c.args.costs.now (view c.args.fixed) c.args.item.now.row.ports.items c.args.item.now.section _ _ _ _ _ c.in_ok-executor.ensures.engine kernel c.in_ok-executor.ensures.controls (sym c.in_ok-executor.ensures.initial) c.in_ok-executor.ensures.initial)
