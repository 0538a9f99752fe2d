use Rattle.std.proofs.Common.{◌≡◌, ◌++◌, List, vec_len}
use Rattle.std.specs.Prelude.{reverse}
use Rattle.trace_lines.specs.Comparisons.{AreFinished}
use Rattle.trace_lines.specs.declared.part.Part.{Part}
use Rattle.trace_lines.proofs.comparison.told_backwards.Given as goal

-- these parts were reported so far
abbrev pub invariant-loop-part : goal.invariant-loop-part
invariant-loop-part l = (gone : List Part) × (l.fn.parts.items ≡ l.parts.items ++ gone) × AreFinished gone (reverse l.found.items)

abbrev pub decreases-loop-part : goal.decreases-loop-part
decreases-loop-part l = vec_len l.parts
