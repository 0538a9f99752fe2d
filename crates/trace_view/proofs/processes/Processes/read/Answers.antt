use Rattle.std.proofs.Common.{Bool, subst}
use Rattle.std.proofs.lemmas.Result.{on_ok_weaker}
use Rattle.trace_view.specs.Processes.{HasMade}
use Rattle.trace_view.proofs.Known.{all_read}
use Rattle.trace_view.proofs.processes.Processes.read.Goals as goal

pub returns : goal.returns
returns c =
    let e = c.args.event.now in
    let mid = c.add_for.new.self.rows.items in
    on_ok_weaker c.read_all.result
    (λ read. all_read c.args.window e c.args.self.now.rows.items mid c.read_all.new.rows.items c.in_ok-add_for.ensures.kept
    (subst (λ (b : Bool). HasMade b e.partition e.kind c.args.self.now.rows.items mid) c.has_tick.ensures c.in_ok-add_for.ensures.made) read) c.read_all.ensures
