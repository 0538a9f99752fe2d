use Rattle.std.proofs.Common.{rules, map}
use Rattle.command_line.specs.Orders.{Build, Check, Cost, Dis, First, Lint, Load, Upgrade}
use Rattle.command_line.proofs.Answered.{answer_of}
use Rattle.command_line.specs.Meant.{inputs_meant, run_meant}
use Rattle.command_line.proofs.Watched.{watched_since}
use Rattle.command_line.proofs.commands.obey_order.Goals as goal

pub returns-in-First-clause-ended : goal.returns-in-First-clause-ended
returns-in-First-clause-ended g c =
    answer_of First _ _ _ c.run_stored.result c.ended.result c.ended.ensures (search rules) (c.run_stored.ensures (g.F.Files.contents c.args.files.now) (g.F.Files.failed c.args.files.now) (g.F.Files.reads c.args.files.now))

pub returns-in-Check-clause-ended : goal.returns-in-Check-clause-ended
returns-in-Check-clause-ended g c =
    let a = c.in-Check in
    answer_of (Check a.names.table.now (map (λ s. s.now) a.names.sources.now)) _ _ _ c.check.result c.ended-in-Check.result c.ended-in-Check.ensures (search rules) c.check.ensures

pub returns-in-Build-clause-ended : goal.returns-in-Build-clause-ended
returns-in-Build-clause-ended g c =
    let a = c.in-Build in
    answer_of (Build a.names.table.now a.image.now (map (λ s. s.now) a.names.sources.now)) _ _ _ c.build.result c.ended-in-Build.result c.ended-in-Build.ensures (search rules) c.build.ensures

pub returns-in-Cost-clause-ended : goal.returns-in-Cost-clause-ended
returns-in-Cost-clause-ended g c =
    let a = c.in-Cost in
    answer_of (Cost a.names.table.now (map (λ s. s.now) a.names.sources.now)) _ _ _ c.cost.result c.ended-in-Cost.result c.ended-in-Cost.ensures (search rules) c.cost.ensures

pub returns-in-Load-clause-ended : goal.returns-in-Load-clause-ended
returns-in-Load-clause-ended g c =
    let a = c.in-Load in
    answer_of (Load a.form a.names.table.now (map (λ s. s.now) a.names.sources.now)) _ _ _ c.load.result c.ended-in-Load.result c.ended-in-Load.ensures (search rules) c.load.ensures

pub returns-in-Lint-clause-ended : goal.returns-in-Lint-clause-ended
returns-in-Lint-clause-ended g c =
    let a = c.in-Lint in
    answer_of (Lint a.names.table.now (map (λ s. s.now) a.names.sources.now)) _ _ _ c.lint.result c.ended-in-Lint.result c.ended-in-Lint.ensures (search rules) c.lint.ensures

pub returns-in-Dis-clause-ended : goal.returns-in-Dis-clause-ended
returns-in-Dis-clause-ended g c =
    let a = c.in-Dis in
    answer_of (Dis a.image.now) _ _ _ c.dis.result c.ended-in-Dis.result c.ended-in-Dis.ensures (search rules) c.dis.ensures

pub returns-in-Upgrade-clause-ended : goal.returns-in-Upgrade-clause-ended
returns-in-Upgrade-clause-ended g c =
    let a = c.in-Upgrade in
    answer_of (Upgrade a.old.now a.new.now) _ _ _ c.upgrade.result c.ended-in-Upgrade.result c.ended-in-Upgrade.ensures (search rules) c.upgrade.ensures

pub returns-in-Run-clause-watched : goal.returns-in-Run-clause-watched
returns-in-Run-clause-watched g c = rw c.in-Run.is (watched_since (run_meant c.in-Run.words) (g.W.Watch.told c.begin_if.new.watch) _ c.begin_if.ensures c.run.ensures.watched)

pub returns-in-Inputs-clause-watched : goal.returns-in-Inputs-clause-watched
returns-in-Inputs-clause-watched g c = rw c.in-Inputs.is (watched_since (inputs_meant c.in-Inputs.words) (g.W.Watch.told c.begin_if-in-Inputs.new.watch) _ c.begin_if-in-Inputs.ensures c.inputs.ensures.watched)
