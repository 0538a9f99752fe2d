use Rattle.std.proofs.Common.{◌≡◌, rules, map, ap, ◌∙◌}
use Rattle.std.specs.Prelude.{Some, None, slice_get}
use Rattle.partition_base.specs.Bursting.{burst_at}
use Rattle.processor.specs.Views.{asks_of}
use Rattle.library_tests.specs.Plays.{controls_of, engine_of, script_of}
use Rattle.library_tests.proofs.Bursts.{played, nobody_plays}
use Rattle.library_tests.proofs.Parts.{views}
use Rattle.library_tests.proofs.executor.ScriptedExecutor.advance.Goals as goal

pub returns-in-Some-clause-burst : goal.returns-in-Some-clause-burst
returns-in-Some-clause-burst c =
    let executor = c.args.self.now in
    let memory = c.args._mem.now in
    let here : slice_get executor.parts.items c.place.result ≡ Some c.in-Some.part.now = search (rules, views) in
    played (map script_of executor.parts.items) executor.parts.items c.place.result c.args.k c.advance.result.ticks c.in-Some.part.now c.advance.new.self memory.words (asks_of c.advance.result.outcome)
    here (c.advance.ensures.burst (map script_of executor.parts.items) memory.words)
    ∙ ap (λ p. burst_at (engine_of executor) c.args.k p (controls_of executor memory) memory.words) c.place.ensures

pub returns-in-None-clause-burst : goal.returns-in-None-clause-burst
returns-in-None-clause-burst c =
    let executor = c.args.self.now in
    let memory = c.args._mem.now in
    let none : slice_get executor.parts.items c.place.result ≡ None = search (rules, views) in
    nobody_plays (map script_of executor.parts.items) executor.parts.items c.place.result c.args.k memory.words none
    ∙ ap (λ p. burst_at (engine_of executor) c.args.k p (controls_of executor memory) memory.words) c.place.ensures
