use Rattle.std.proofs.Common.{◌≡◌}
use Rattle.pal_meaning.specs.Lines.{from_word}
use Rattle.source_places.proofs.text_words.from_word.Given as goal

abbrev pub invariant-loop-left : goal.invariant-loop-left
invariant-loop-left l = from_word l.count l.fn.text ≡ from_word l.left l.rest

abbrev pub decreases-loop-left : goal.decreases-loop-left
decreases-loop-left l = l.left
