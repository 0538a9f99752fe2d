use Rattle.std.proofs.Common.{◌≡◌, ◌+◌, ◌≤◌, length}
use Rattle.module_meaning.specs.DeviceText.{pieces}
use Rattle.image_findings.specs.First as spec
use Rattle.image_findings.specs.Views.{names_of}
use Rattle.image_findings.proofs.first.first_wrong.Given as goal

abbrev pub invariant-loop-rest : goal.invariant-loop-rest
invariant-loop-rest l = record {
  rest : spec.first_wrong (names_of l.names) 0 0 (pieces 10 l.text) ≡ spec.first_wrong (names_of l.names) l.count l.before (pieces 10 l.rest);
  counted : l.count + length l.rest ≤ length l.text;
}

abbrev pub decreases-loop-rest : goal.decreases-loop-rest
decreases-loop-rest l = length l.rest
