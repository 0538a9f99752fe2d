use Rattle.std.proofs.Common.{◌↔◌, length}
use Rattle.std.specs.Str.Parse.{AllDigits}
use Rattle.command_words.proofs.number.are_digits.Given as goal

abbrev pub invariant-loop-byte : goal.invariant-loop-byte
invariant-loop-byte l = AllDigits 10 l.bytes ↔ AllDigits 10 l.rest

abbrev pub decreases-loop-byte : goal.decreases-loop-byte
decreases-loop-byte l = length l.rest
