use Rattle.std.proofs.Common.{◌≡◌, rules, map, ap, ◌∙◌}
use Rattle.std.specs.Prelude.{Some, None, slice_get}
use Rattle.partition_base.specs.Bursting.{ticked_at}
use Rattle.processor.specs.Views.{asks_of}
use Rattle.library_tests.specs.Plays.{controls_of, engine_of, script_of}
use Rattle.library_tests.proofs.Bursts.{no_part_ticks, ticked_part}
use Rattle.library_tests.proofs.Parts.{views}
use Rattle.library_tests.proofs.executor.ScriptedExecutor.tick.Goals as goal

pub returns-in-Some-clause-ticked : goal.returns-in-Some-clause-ticked
returns-in-Some-clause-ticked c =
    let executor = c.args.self.now in
    let memory = c.args._mem.now in
    let scripts = map script_of executor.parts.items in
    let here : slice_get executor.parts.items c.place.result ≡ Some c.in-Some.part.now = search (rules, views) in
    ticked_part scripts executor.parts.items c.place.result c.in-Some.part.now c.tick.new.self memory.words (asks_of c.tick.result)
    here (c.tick.ensures.control scripts memory.words) (c.tick.ensures.asks scripts memory.words)
    ∙ ap (λ p. ticked_at (engine_of executor) p (controls_of executor memory) memory.words) c.place.ensures

pub returns-in-None-clause-ticked : goal.returns-in-None-clause-ticked
returns-in-None-clause-ticked c =
    let executor = c.args.self.now in
    let memory = c.args._mem.now in
    let none : slice_get executor.parts.items c.place.result ≡ None = search (rules, views) in
    no_part_ticks (map script_of executor.parts.items) executor.parts.items c.place.result memory.words none
    ∙ ap (λ p. ticked_at (engine_of executor) p (controls_of executor memory) memory.words) c.place.ensures
