use Rattle.std.proofs.Common.{length}
use Rattle.image_findings.proofs.naming.+receiver_named.Given as goal

abbrev pub decreases-receiver_named : goal.decreases-receiver_named
decreases-receiver_named l = length l.receivers.now
