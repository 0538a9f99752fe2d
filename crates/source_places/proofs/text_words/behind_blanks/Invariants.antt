use Rattle.std.proofs.Common.{◌≡◌, false, length}
use Rattle.pal_meaning.specs.Grammar.{behind_blanks}
use Rattle.source_places.proofs.text_words.behind_blanks.Given as goal

abbrev pub invariant-loop-byte : goal.invariant-loop-byte
invariant-loop-byte l = behind_blanks false l.fn.text ≡ behind_blanks l.is_comment l.rest

abbrev pub decreases-loop-byte : goal.decreases-loop-byte
decreases-loop-byte l = length l.rest
