use Rattle.window_table.specs.Schedules.{schedule_of}
use Rattle.window_table.proofs.Changes.{owner_stays, none_ends}
use Rattle.window_table.proofs.schedule.Schedule.until_change.Goals as goal

pub returns-clause-owner : goal.returns-clause-owner
returns-clause-owner c = λ i below. owner_stays (schedule_of c.args.self.now) c.args.moment.at c.args.self.now.frame_there c.args.moment.past c.phase.result.0 c.phase.ensures.place c.until_next_edge.result c.until_next_edge.ensures.computed i below

pub returns-clause-ended : goal.returns-clause-ended
returns-clause-ended c = λ i there below. none_ends (schedule_of c.args.self.now) c.args.moment.at c.args.self.now.frame_there c.args.moment.past c.phase.result.0 c.phase.ensures.place c.until_next_edge.result c.until_next_edge.ensures.computed i there below
