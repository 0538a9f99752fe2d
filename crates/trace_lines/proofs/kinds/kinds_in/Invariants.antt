use Rattle.std.proofs.Common.{◌≡◌, Some, option_copied}
use Rattle.text_lines.specs.Pieces.{pieces_of}
use Rattle.text_lines.proofs.Pieces.{rest_length}
use Rattle.trace_lines.specs.KindSets.{no_kinds, with_words}
use Rattle.trace_lines.proofs.kinds.kinds_in.Given as goal

abbrev pub invariant-loop-rest : goal.invariant-loop-rest
invariant-loop-rest l = with_words (pieces_of 44 (Some l.fn.text)) (Some no_kinds) ≡ with_words (pieces_of 44 (option_copied l.rest)) (Some l.kinds)

abbrev pub decreases-loop-rest : goal.decreases-loop-rest
decreases-loop-rest l = rest_length (option_copied l.rest)
