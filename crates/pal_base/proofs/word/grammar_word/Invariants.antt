use Rattle.std.proofs.Common.{◌≡◌, ℕ, List, length, map}
use Rattle.std.specs.Prelude.{find}
use Rattle.engine_meaning.specs.Digits.{same}
use Rattle.pal_meaning.specs.Grammar.{grammar_words}
use Rattle.pal_base.specs.Marks.{mark_text}
use Rattle.pal_base.proofs.word.grammar_word.Given as goal

abbrev pub invariant-loop-mark : goal.invariant-loop-mark
invariant-loop-mark l = find (λ (mark : List ℕ). same mark l.run) grammar_words ≡ find (λ (mark : List ℕ). same mark l.run) (map mark_text l.marks)

abbrev pub decreases-loop-mark : goal.decreases-loop-mark
decreases-loop-mark l = length l.marks
