use Rattle.std.proofs.Common.{◌≡◌, option_copied}
use Rattle.apex_types.specs.Line.{space}
use Rattle.module_meaning.specs.DeviceText.{pieces}
use Rattle.text_lines.proofs.Pieces.{rest_length}
use Rattle.image_findings.specs.Parts as spec
use Rattle.image_findings.specs.Views.{parts_of}
use Rattle.image_findings.proofs.Pieces.{found_and_rest}
use Rattle.image_findings.proofs.parts.parts.Given as goal

abbrev pub invariant-loop-rest : goal.invariant-loop-rest
invariant-loop-rest l = spec.parts (pieces space l.line) ≡ found_and_rest (parts_of l.parts.items) (option_copied l.rest)

abbrev pub decreases-loop-rest : goal.decreases-loop-rest
decreases-loop-rest l = rest_length (option_copied l.rest)
