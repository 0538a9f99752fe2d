use Rattle.std.proofs.Common.{◌≡◌, ◌+◌, drop}
use Rattle.engine_meaning.specs.Operators.{put_words}
use Rattle.regions.specs.Space.{put}
use Rattle.partition_base.proofs.machine.put.Given as goal

abbrev pub invariant-loop-word : goal.invariant-loop-word
invariant-loop-word l = record {
  place : l.next ≡ l.fn.place + l.word-index;
  rest : put_words l.memory.words l.next (drop l.word-index l.array) ≡ put_words l.fn.memory.words l.fn.place l.array;
  memory : l.memory ≡ put l.fn.memory l.fn.memory.stack l.memory.words;
}
