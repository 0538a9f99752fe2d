use Rattle.std.proofs.Common.{◌≡◌, ◌≤◌, option_copied, length}
use Rattle.apex_types.specs.declared.limits.TheConstants.{MOST_WORDS}
use Rattle.apex_types.specs.Line.{space}
use Rattle.module_meaning.specs.DeviceText.{words}
use Rattle.text_lines.specs.Pieces.{pieces_of}
use Rattle.text_lines.proofs.Pieces.{rest_length}
use Rattle.trace_text.specs.Reading.{words_of}
use Rattle.trace_text.proofs.MessageWords.{few_behind}
use Rattle.trace_text.proofs.kind.words_of.Given as goal

abbrev pub invariant-loop-rest : goal.invariant-loop-rest
invariant-loop-rest l = record {
  read : words_of (pieces_of space (option_copied l.initial.rest)) ≡ few_behind l.words.items (words (pieces_of space (option_copied l.rest)));
  short : length l.words.items ≤ MOST_WORDS;
}

abbrev pub decreases-loop-rest : goal.decreases-loop-rest
decreases-loop-rest l = rest_length (option_copied l.rest)
