use Rattle.std.proofs.Common.{◌≡◌, drop}
use Rattle.std.specs.List.{list_any}
use Rattle.text_beginnings.specs.Settled.{is_control}
use Rattle.text_beginnings.proofs.beginning.has_control.Given as goal

abbrev pub invariant-loop-byte : goal.invariant-loop-byte
invariant-loop-byte l = list_any is_control l.bytes ≡ list_any is_control (drop l.byte-index l.bytes)
