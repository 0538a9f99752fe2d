use Rattle.std.proofs.Common.{length}
use Rattle.view_laws.proofs.words.+lines_have_names.Given as goal

-- proposed from what the function passes where it calls itself
abbrev pub decreases-lines_have_names : goal.decreases-lines_have_names
decreases-lines_have_names l = length l.events.now
