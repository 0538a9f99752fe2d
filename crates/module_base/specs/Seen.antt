-- The code's view of the lines of a device text.
use Rattle.std.specs.Prelude.{ℤ, List, length, nat_le, if◌then◌else◌}
use Rattle.apex_types.specs.Limits.{MOST_WORDS}
use Rattle.module_meaning.specs.DeviceText as meant
use Rattle.kernel_meaning.specs.Step.{message}
use Rattle.module_base.specs.declared.line.MessageWords.{MessageWords}
use Rattle.module_base.specs.declared.line.MessageWords.TheVariants as words
use Rattle.module_base.specs.declared.line.Written.{Written}
use Rattle.module_base.specs.declared.line.Written.TheVariants as written
use Rattle.module_base.specs.declared.line.WrittenLine.{WrittenLine}

-- the words, unless they are more than a message has
abbrev pub fitting : List ℤ → MessageWords
fitting ws = if nat_le (length ws) MOST_WORDS then words.Few (message ws) else words.TooMany

abbrev pub seen : meant.Written → Written
seen (meant.Message channel ws) = written.Message channel (fitting ws)
seen meant.ModuleFault = written.ModuleFault
seen (meant.PartitionFault partition) = written.PartitionFault partition

abbrev pub seen_line : meant.WrittenLine → WrittenLine
seen_line l = record { tick = record { 0 = l.tick }; written = seen l.written }
