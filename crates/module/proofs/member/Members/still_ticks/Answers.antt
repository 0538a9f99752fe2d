use Rattle.module.proofs.Prelude.{◌≡◌, ◌≤◌, length, Some, ◌+◌, rules, arith, slice_get-get_or, Kernel, IsStill, members_in}
use Rattle.std.proofs.Common.{slice_get, subst}
use Rattle.module.proofs.Members.{kernel_there, members_count}
use Rattle.module.proofs.Bursts.{one_more_still, all_still}
use Rattle.module.proofs.member.Members.still_ticks.Goals as goal

pub loop-place-preserved : goal.loop-place-preserved
loop-place-preserved g c =
    let e = g.E.Executor in
    let ps = c.args.self.now.partitions.items in
    let memory = c.args.self.now.memory in
    let place = c.loop-place.place in
    let p = c.index.result.now in
    let here : slice_get ps place ≡ Some p = search (rules, slice_get-get_or) in
    let t = c.args.moment.at.now.0 in
    record {
      inside = search rules;
      within = omega (arith, c.loop-place.invariant.within, c.still_ticks-least.ensures.within);
      still = λ some. one_more_still c.args.moment.at.origin.0 t c.loop-place.least c.still_ticks-least.result place (members_in e c.args.self.now) p.kernel c.still_ticks-least.ensures.within
          (kernel_there e ps memory place p c.args.self.now.fit here)
          (c.loop-place.invariant.still (omega (arith, some, c.still_ticks-least.ensures.within)))
          (subst (λ (k : Kernel). IsStill c.args.moment.at.origin.0 t (t + c.still_ticks-least.result) k) c.kernel.ensures (c.still_ticks-least.ensures.still some));
    }

pub returns-clause-still : goal.returns-clause-still
returns-clause-still g c = λ some.
    let e = g.E.Executor in
    let ps = c.args.self.now.partitions.items in
    let memory = c.args.self.now.memory in
    let place = c.loop-place.place in
    let count : length (members_in e c.args.self.now) ≡ length ps = members_count e ps memory c.args.self.now.fit in
    let behind : length ps ≤ place = search rules in
    all_still c.args.moment.at.origin.0 c.args.moment.at.now.0 c.loop-place.least place (members_in e c.args.self.now) (omega (arith, count, behind)) (c.loop-place.invariant.still some)
