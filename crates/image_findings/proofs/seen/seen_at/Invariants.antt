use Rattle.std.proofs.Common.{◌≡◌, ◌-◌, ◌<◌, true, false}
use Rattle.image_findings.specs.Seen.{is_cut}
use Rattle.image_findings.proofs.seen.seen_at.Given as goal

abbrev pub invariant-loop-cut : goal.invariant-loop-cut
invariant-loop-cut l = record {
  cut : is_cut l.cut l.bytes ≡ true;
  whole : is_cut l.whole l.bytes ≡ false;
  below : l.cut < l.whole;
}

abbrev pub decreases-loop-cut : goal.decreases-loop-cut
decreases-loop-cut l = l.whole - l.cut
