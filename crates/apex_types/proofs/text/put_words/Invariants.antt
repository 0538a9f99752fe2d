use Rattle.std.proofs.Common.{◌*◌, take}
use Rattle.apex_types.specs.declared.limits.TheConstants.{MOST_WORD_BYTES}
use Rattle.apex_types.specs.Line.{words_text}
use Rattle.apex_types.specs.Written.{IsWritten}
use Rattle.apex_types.proofs.text.put_words.Given as goal

abbrev pub invariant-loop-word : goal.invariant-loop-word
invariant-loop-word l =
    IsWritten l.initial.line l.at l.line l.end (words_text (take l.word-index l.words)) (MOST_WORD_BYTES * l.word-index)
