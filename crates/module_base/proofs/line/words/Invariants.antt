use Rattle.module_base.proofs.Prelude.{◌≡◌, ◌≤◌, option_copied, length, space, MOST_WORDS, pieces, pieces_of, fitting}
use Rattle.std.proofs.Common.{option_map}
use Rattle.module_meaning.specs.DeviceText.{words}
use Rattle.text_lines.proofs.Pieces.{rest_length}
use Rattle.module_base.proofs.LineWords.{read_on}
use Rattle.module_base.proofs.line.words.Given as goal

abbrev pub invariant-loop-rest : goal.invariant-loop-rest
invariant-loop-rest l = record {
  read : option_map fitting (words (pieces space l.fn.text)) ≡ read_on l.words.items l.is_long (words (pieces_of space (option_copied l.rest)));
  short : length l.words.items ≤ MOST_WORDS;
}

abbrev pub decreases-loop-rest : goal.decreases-loop-rest
decreases-loop-rest l = rest_length (option_copied l.rest)
