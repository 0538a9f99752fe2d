use Rattle.std.proofs.Common.{◌≡◌, [], false, length}
use Rattle.source_findings.specs.Texts.{strays}
use Rattle.source_findings.specs.Views.{wrongs_of}
use Rattle.source_findings.proofs.texts.strays.Given as goal

abbrev pub invariant-loop-byte : goal.invariant-loop-byte
invariant-loop-byte l = strays false l.text [] ≡ strays l.before l.walk.text.now (wrongs_of l.walk.found.items)

abbrev pub decreases-loop-byte : goal.decreases-loop-byte
decreases-loop-byte l = length l.walk.text.now
