use Rattle.std.proofs.Common.{◌≡◌, ℕ, List, length, map, nat_eq}
use Rattle.std.specs.Prelude.{find}
use Rattle.std.specs.List.{starts_with}
use Rattle.pal_meaning.specs.Grammar.{signs}
use Rattle.pal_base.specs.Marks.{mark_text}
use Rattle.source_places.proofs.text_words.sign_length.Given as goal

abbrev pub invariant-loop-mark : goal.invariant-loop-mark
invariant-loop-mark l = find (λ (sign : List ℕ). starts_with nat_eq l.text sign) signs ≡ find (λ (sign : List ℕ). starts_with nat_eq l.text sign) (map mark_text l.marks)

abbrev pub decreases-loop-mark : goal.decreases-loop-mark
decreases-loop-mark l = length l.marks
