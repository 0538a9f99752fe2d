use Rattle.streams.proofs.Told.{either_told}
use Rattle.streams.proofs.writing.tell_line.Goals as goal

pub returns : goal.returns
returns g c = either_told _ _ _ (g.D.Display.output c.args.line) c.write_line.result c.write_line.ensures.flushed c.write_line.ensures.bytes c.write_line.ensures.failed
