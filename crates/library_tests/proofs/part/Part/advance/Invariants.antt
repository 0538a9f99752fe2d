use Rattle.std.proofs.Common.{◌≡◌, ◌≤◌, ◌-◌, List, ℤ}
use Rattle.engine_meaning.specs.Engine.{Asks}
use Rattle.kernel_meaning.specs.Partition.{ticked}
use Rattle.kernel_laws.specs.Bursts.{burst, later}
use Rattle.library_tests.specs.Plays.{control_of, script_of}
use Rattle.library_tests.specs.Scripts.{script_engine}
use Rattle.library_tests.proofs.part.Part.advance.Given as goal

-- the ticks so far, and those that are left from here, are all of them
abbrev pub invariant-loop-left : goal.invariant-loop-left
invariant-loop-left l = record {
  all : (scripts : List (List Asks)) (words : List ℤ) → later (l.fn.k - l.left) (burst (ticked (script_engine scripts)) l.left (control_of l.self) words) ≡ burst (ticked (script_engine scripts)) l.fn.k (control_of l.fn.self) words;
  script : script_of l.self ≡ script_of l.fn.self;
  within : l.left ≤ l.fn.k;
}

abbrev pub decreases-loop-left : goal.decreases-loop-left
decreases-loop-left l = l.left
