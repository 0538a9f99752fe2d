use Rattle.std.proofs.Common.{sym, subst}
use Rattle.kernel_meaning.specs.WindowFacts.{IsNextRelease}
use Rattle.kernel_laws.proofs.NextRelease.{is_next_release}
use Rattle.window_table.proofs.Apart.{begin}
use Rattle.window_table.specs.Schedules.{schedule_of}
use Rattle.window_table.proofs.schedule.Schedule.next_release.Goals as goal

pub returns-clause-least : goal.returns-clause-least
returns-clause-least c = λ there.
    let s = schedule_of c.args.self.now in
    subst (IsNextRelease s c.args.partition.0 c.args.moment.at) (sym c.release_after.ensures.computed) (is_next_release s c.args.partition.0 c.args.moment.at c.args.self.now.frame_there c.args.moment.past (begin c.args.self.now.frame c.args.self.now.windows.items c.args.self.now.apart) there)
