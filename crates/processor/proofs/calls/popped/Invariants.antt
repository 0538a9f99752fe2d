use Rattle.std.proofs.Common.{◌≡◌, ◌-◌, ◌≤◌, [], length}
use Rattle.machine_meaning.specs.MachineControl.{popped}
use Rattle.processor.proofs.calls.popped.Given as goal

abbrev pub invariant-loop-place : goal.invariant-loop-place
invariant-loop-place l = record {
  words : l.words.items ≡ popped (l.place - l.from) l.memory.stack l.place [];
  count : length l.words.items ≡ l.place - l.from;
  from : l.from ≤ l.place;
}
