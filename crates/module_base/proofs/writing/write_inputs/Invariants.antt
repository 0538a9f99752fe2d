use Rattle.module_base.proofs.Prelude.{◌≡◌, length, partition_of, AreWritable, replay_text}
use Rattle.apex_types.proofs.Writing.{IsUnderWay}
use Rattle.module_base.proofs.writing.write_inputs.Given as goal

abbrev pub invariant-loop-line : goal.invariant-loop-line
invariant-loop-line g l = record {
  under_way : IsUnderWay (g.S.Sink.taken l.initial.sink) (g.S.Sink.taken l.sink) (replay_text (partition_of l.row) l.lines) (replay_text (partition_of l.row) l.rest);
  quiet : g.S.Sink.failures l.sink ≡ g.S.Sink.failures l.initial.sink;
  words : AreWritable l.rest → AreWritable l.lines;
}

abbrev pub decreases-loop-line : goal.decreases-loop-line
decreases-loop-line g l = length l.rest
