use Rattle.std.proofs.Common.{◌≡◌, map, take}
use Rattle.regions.specs.Space.{planned}
use Rattle.regions.proofs.memory.Memory.new.Given as goal

abbrev pub invariant-loop-part : goal.invariant-loop-part
invariant-loop-part l = l.parts.items ≡ map planned (take l.part-index l.plan)
