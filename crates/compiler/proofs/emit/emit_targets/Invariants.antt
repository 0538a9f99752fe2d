use Rattle.std.proofs.Common.{◌≡◌, drop, map, ◌++◌}
use Rattle.compiling_laws.specs.CompiledCode as code_of
use Rattle.compiler.proofs.emit.emit_targets.Given as goal

abbrev pub invariant-loop-target : goal.invariant-loop-target
invariant-loop-target l = l.code.items ++ map code_of.store (drop l.target-index l.targets) ≡ l.fn.code.items ++ map code_of.store l.targets
