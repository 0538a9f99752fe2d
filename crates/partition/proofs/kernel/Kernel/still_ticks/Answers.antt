use Rattle.std.proofs.Common.{◌≡◌, rules}
use Rattle.std.specs.Prelude.{None}
use Rattle.partition.proofs.AtRest.{is_still}
use Rattle.partition.proofs.kernel.Kernel.still_ticks.Goals as goal

pub returns-clause-still : goal.returns-clause-still
returns-clause-still c = λ some.
    let k = c.args.self.now in
    let nobody : k.processes.running ≡ None = search (rules, c.running.ensures, c.is_some.ensures, c.if-is_some.false) in
    is_still k c.args.moment.at.origin.0 c.args.moment.at.now.0 c.quiet_ticks.result nobody (c.ports_rest.ensures (search rules)) (c.choice_stays.ensures (search rules)) c.quiet_ticks.ensures.due
