use Rattle.std.proofs.Common.{◌≡◌, ap, arith}
use Rattle.kernel_laws.specs.Bursts.{Burst}
use Rattle.kernel_laws.specs.Running.{burst_of}
use Rattle.kernel_laws.proofs.Running.{burst_ticks}
use Rattle.partition.specs.Members.{member_of}
use Rattle.partition.proofs.partition.Partition.run_for.Goals as goal

pub returns-clause-within : goal.returns-clause-within
returns-clause-within g c =
    let x = member_of g.E.Executor c.args.self.now c.args.mem.now in
    let many : c.advance.result.ticks ≡ (burst_of x.engine c.args.k c.args.runner x.world).ticks = ap (λ (b : Burst _ _ _). b.ticks) c.advance.ensures.burst in
    omega (arith, many, burst_ticks x.engine c.args.k c.args.runner x.world)
