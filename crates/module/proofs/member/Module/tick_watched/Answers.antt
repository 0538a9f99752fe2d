use Rattle.module.proofs.Prelude.{sym, Ticks, next_at, IsNow, plan_of, standing_of}
use Rattle.std.proofs.Common.{subst}
use Rattle.module.proofs.Standing.{ticks_now}
use Rattle.module.proofs.member.Module.tick_watched.Goals as goal

pub pass-requires-clause-of_now : goal.pass-requires-clause-of_now
pass-requires-clause-of_now g c =
    let last = next_at c.in_ok-last.last in
    subst (λ (t : Ticks). IsNow t.0 last) (sym c.in_ok-last.ensures.now)
    (ticks_now (plan_of c.args.self.now.image) c.args.lines.now (standing_of g.E.Executor c.args.self.now) last c.in_ok-last.ensures.made.at)
