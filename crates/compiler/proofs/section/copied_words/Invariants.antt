use Rattle.std.proofs.Common.{◌≡◌, take, All, FitsSigned, w64}
use Rattle.compiler.proofs.section.copied_words.Given as goal

abbrev pub invariant-loop-word : goal.invariant-loop-word
invariant-loop-word l = record {
  items : l.copy.items ≡ take l.word-index l.words;
  words : All (FitsSigned w64) l.copy.items;
}
