use Rattle.std.proofs.Common.{◌≡◌, ◌+◌, ◌<◌, ◌≤◌, false, length}
use Rattle.pal_meaning.specs.Grammar.{behind_blanks}
use Rattle.pal_meaning.specs.Lines.{feeds}
use Rattle.pal_base.proofs.word.behind_blanks.Given as goal

abbrev pub invariant-loop-byte : goal.invariant-loop-byte
invariant-loop-byte l =
    (behind_blanks false l.fn.text ≡ behind_blanks l.is_comment l.rest)
    × (l.line + length l.rest ≤ l.fn.line + length l.fn.text)
    × (l.fn.line + length l.fn.text < 4294967296 → l.line + feeds l.rest ≡ l.fn.line + feeds l.fn.text)

abbrev pub decreases-loop-byte : goal.decreases-loop-byte
decreases-loop-byte l = length l.rest
