use Rattle.std.proofs.Common.{map}
use Rattle.apex_types.specs.Runners.{place_of}
use Rattle.library_tests.specs.Plays.{script_of, controls_of}
use Rattle.library_tests.proofs.Parts.{replied_same}
use Rattle.library_tests.proofs.executor.ScriptedExecutor.reply.Goals as goal

pub returns-clause-controls : goal.returns-clause-controls
returns-clause-controls c = replied_same (map script_of c.args.self.now.parts.items) (controls_of c.args.self.now c.args._mem.now) (place_of c.args._runner) c.args._answer.now
