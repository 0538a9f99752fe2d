use Rattle.std.proofs.Common.{◌≡◌, ℕ, ◌+◌, ◌-◌, ap, subst, ◌∙◌}
use Rattle.kernel_meaning.specs.Partition.{Member, Moved, given, moved, treats_asked, with_world}
use Rattle.kernel_meaning.specs.Windows.{tick_from}
use Rattle.processor.specs.Views.{asks_of}
use Rattle.kernel_laws.specs.Running.{burst_of, treated_at, with_control}
use Rattle.partition.specs.Members.{member_of, IsRecorded}
use Rattle.partition.proofs.partition.Partition.burst.Goals as goal

pub returns-clause-treated : goal.returns-clause-treated
returns-clause-treated g c =
    let x = member_of g.E.Executor c.args.self.now c.args.mem.now in
    let r = member_of g.E.Executor c.run_for-burst.new.self c.run_for-burst.new.mem in
    let p = c.args.runner in
    let o = c.args.moment.at.origin.0 in
    let t = c.args.moment.at.now.0 in
    let b = burst_of x.engine c.args.k p x.world in
    let ticks = c.run_for-burst.result.ticks in
    let asks = asks_of c.run_for-burst.result.outcome in
    let settled : ℕ → Member _ → Moved _ = λ k z. moved (tick_from o (t + (k - 1))) z.engine (treats_asked (tick_from o (t + (k - 1))) z.world.kernel p asks (given asks z.world.words)) z.world in
    let done = c.settle.ensures.moved in
    let world = c.run_for-burst.ensures.world in
    let v = with_control x.world p b.control b.words in
    let same : settled c.from.result r ≡ treated_at x.engine o p x.world (t + (ticks - 1)) b =
    ap (settled c.from.result) world
    ∙ ap (λ k. settled k (with_world x v)) c.from.ensures
    ∙ ap (λ a. moved (tick_from o (t + (ticks - 1))) x.engine (treats_asked (tick_from o (t + (ticks - 1))) x.world.kernel p a (given a b.words)) v) c.run_for-burst.ensures.told in (
      done.0 ∙ ap (λ (z : Member _). with_world z (settled c.from.result r).world) world ∙ ap (λ (m : Moved _). with_world x m.world) same,
      subst (λ (m : Moved _). IsRecorded g.L.EventLog c.args.log.now c.settle.new.log c.args.self.now.room c.settle.new.self.room m.lines) same
          (subst (λ room. IsRecorded g.L.EventLog c.args.log.now c.settle.new.log room c.settle.new.self.room (settled c.from.result r).lines) c.run_for-burst.ensures.room done.1),
    )
