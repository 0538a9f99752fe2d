use Rattle.std.proofs.Common.{◌≡◌, [], drop}
use Rattle.lint.specs.Stacks.{words_of_procedures}
use Rattle.lint.proofs.stacks.words_of_procedures.Given as goal

abbrev pub invariant-loop-procedure : goal.invariant-loop-procedure
invariant-loop-procedure l = words_of_procedures l.known.items (drop l.procedure-index l.procedures) ≡ words_of_procedures [] l.procedures
