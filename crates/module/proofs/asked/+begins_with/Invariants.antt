use Rattle.std.proofs.Common.{◌+◌, length}
use Rattle.std.specs.Prelude.{option_copied}
use Rattle.text_lines.proofs.Pieces.{rest_length}
use Rattle.module.proofs.asked.+begins_with.Given as goal

abbrev pub decreases-begins_with : goal.decreases-begins_with
decreases-begins_with l = length l.asked.now + rest_length (option_copied l.text)
