use Rattle.text_beginnings.specs.Kinds.{settles}
use Rattle.command_line.proofs.Begun.{held_on}
use Rattle.command_line.proofs.reading.read_as.Goals as goal

pub returns-in-Ok-clause-known : goal.returns-in-Ok-clause-known
returns-in-Ok-clause-known g c =
    held_on (settles c.args.kind) (g.F.Files.contents c.args.files.now) c.args.name.now c.in-Ok.text.items c.in-Ok.ensures.held
