use Rattle.std.proofs.lemmas.Result.{on_ok_weaker}
use Rattle.trace_view.proofs.Known.{has_read}
use Rattle.trace_view.proofs.processes.ProcessRow.read.Goals as goal

pub returns : goal.returns
returns c =
    on_ok_weaker c.turn_if.result
    (λ turn. has_read c.args.window c.args.event.now c.args.self.now c.count_if.new.self c.turn_if.new.self c.counts.result c.next_in.result c.counts.ensures c.count_if.ensures c.next_in.ensures turn)
    c.turn_if.ensures
