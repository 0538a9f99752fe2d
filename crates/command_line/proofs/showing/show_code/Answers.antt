use Rattle.streams.specs.States.{seen}
use Rattle.image.specs.Views.{image_of}
use Rattle.command_line.specs.Code.{code_text}
use Rattle.command_line.proofs.Shown.{shown_to_end}
use Rattle.command_line.proofs.showing.show_code.Goals as goal

pub returns : goal.returns
returns g c =
    let out = seen g.O.Sink.taken g.O.Sink.failures g.O.Stream.is_flushed in
    shown_to_end (code_text (image_of c.args.image.now)) (out c.args.out.now) (out c.write_code.new.sink) (out c.flush.new.self) c.flush.result c.in_ok-write_code.ensures c.flush.ensures.kept c.flush.ensures.flushed c.flush.ensures.quiet c.flush.ensures.failed
