use Rattle.std.proofs.Common.{rules}
use Rattle.std.proofs.KnownBytes.{Appends-trans}
use Rattle.std.proofs.Math.Seq.{take-add}
use Rattle.apex_types.proofs.sink.put_all.Goals as goal

-- The bytes taken before this call, followed by those that it took, are a prefix of the bytes.
pub loop-done-preserved : goal.loop-done-preserved
loop-done-preserved g c =
    let moved = Appends-trans (g.S.Sink.taken c.args.sink.now) (g.S.Sink.taken c.loop-done.sink) (g.S.Sink.taken c.put.new.self) _ _ c.loop-done.invariant.1 c.in-Ok.ensures.bytes in
    (search rules, rw (take-add c.loop-done.done c.in-Ok.count c.args.bytes.now, ← c.split_at.ensures.back) moved, search rules)
