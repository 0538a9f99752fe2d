use Rattle.std.proofs.Common.{◌≡◌, ◌+◌, length}
use Rattle.std.specs.Prelude.{not, ◌==◌}
use Rattle.std.specs.List.{prefix_len}
use Rattle.module_meaning.specs.DeviceText.{pieces_behind_marks}
use Rattle.text_lines.proofs.piece.split_at.Given as goal

abbrev pub invariant-loop-byte : goal.invariant-loop-byte
invariant-loop-byte l = record {
  counted : l.count + length l.rest ≡ length l.fn.text;
  front : l.count + prefix_len (λ b. not (b == l.mark)) l.rest ≡ prefix_len (λ b. not (b == l.mark)) l.fn.text;
  behind : pieces_behind_marks l.mark l.fn.text ≡ pieces_behind_marks l.mark l.rest;
}

abbrev pub decreases-loop-byte : goal.decreases-loop-byte
decreases-loop-byte l = length l.rest
