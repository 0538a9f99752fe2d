use Rattle.std.proofs.Common.{length}
use Rattle.image_findings.proofs.form.+words_wrong.Given as goal

abbrev pub decreases-words_wrong : goal.decreases-words_wrong
decreases-words_wrong l = length l.words.now
