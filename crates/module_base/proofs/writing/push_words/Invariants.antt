use Rattle.module_base.proofs.Prelude.{◌≡◌, ◌+◌, ◌≤◌, ◌++◌, length, take, drop, words_text}
use Rattle.std.proofs.Common.{◌*◌}
use Rattle.apex_types.specs.declared.limits.TheConstants.{MOST_WORD_BYTES}
use Rattle.text_lines.specs.Words.{AreWords}
use Rattle.module_base.proofs.writing.push_words.Given as goal

abbrev pub invariant-loop-word : goal.invariant-loop-word
invariant-loop-word l = record {
  items : l.line.items ≡ l.initial.line.items ++ words_text (take l.word-index l.words);
  len : length l.line.items ≤ length l.initial.line.items + MOST_WORD_BYTES * l.word-index;
  words : AreWords (drop l.word-index l.words) → AreWords l.words;
}
