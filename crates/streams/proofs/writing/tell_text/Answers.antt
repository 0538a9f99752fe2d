use Rattle.streams.proofs.Told.{either_of, either_told}
use Rattle.streams.proofs.writing.tell_text.Goals as goal

pub returns-clause-text : goal.returns-clause-text
returns-clause-text g c = either_told _ _ _ (g.D.Display.output c.args.text) c.write_text.result c.write_text.ensures.flushed c.write_text.ensures.bytes c.write_text.ensures.failed

pub returns-clause-written : goal.returns-clause-written
returns-clause-written g c = either_of _ _ c.write_text.result c.write_text.ensures.flushed c.write_text.ensures.failed
