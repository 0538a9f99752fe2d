use Rattle.std.proofs.Common.{◌≡◌, ◌++◌, map, drop}
use Rattle.pal_meaning.specs.Resolve as meant
use Rattle.pal_base.specs.View.{integer_of}
use Rattle.pal.proofs.resolving.push_values.Given as goal

abbrev pub invariant-loop-value : goal.invariant-loop-value
invariant-loop-value l = l.words.items ++ map meant.signed_word (map integer_of (drop l.value-index l.values)) ≡ l.fn.words.items ++ map meant.signed_word (map integer_of l.values)
