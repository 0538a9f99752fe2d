use Rattle.std.proofs.Common.{◌≡◌, map, take, drop, ◌++◌}
use Rattle.kernel_meaning.specs.Partition.{no_control}
use Rattle.library_tests.specs.Plays.{control_of, script_of}
use Rattle.library_tests.proofs.executor.stop_each.Given as goal

abbrev pub invariant-loop-part : goal.invariant-loop-part
invariant-loop-part l = record {
  controls : map control_of l.part-items ≡ map no_control (take l.part-index (map control_of l.fn.parts.items)) ++ drop l.part-index (map control_of l.fn.parts.items);
  scripts : map script_of l.part-items ≡ map script_of l.fn.parts.items;
}
