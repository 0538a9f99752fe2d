use Rattle.streams.specs.States.{seen}
use Rattle.command_line.specs.Costs.{costs_text}
use Rattle.command_line.proofs.Shown.{shown_to_end}
use Rattle.command_line.proofs.showing.show_costs.Goals as goal

pub returns : goal.returns
returns g c =
    let out = seen g.O.Sink.taken g.O.Sink.failures g.O.Stream.is_flushed in
    shown_to_end (costs_text c.args.costs.now) (out c.args.out.now) (out c.write_costs.new.sink) (out c.flush.new.self) c.flush.result c.in_ok-write_costs.ensures c.flush.ensures.kept c.flush.ensures.flushed c.flush.ensures.quiet c.flush.ensures.failed
