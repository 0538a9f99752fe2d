-- The values of the code as those of the definitions.
use Rattle.std.specs.Prelude.{List, map}
use Rattle.image_findings.specs.Names as spec_names
use Rattle.image_findings.specs.Parts as spec_parts
use Rattle.image_findings.specs.What as spec_what
use Rattle.image_findings.specs.declared.names.Names.{Names}
use Rattle.image_findings.specs.declared.names.Receiver.{Receiver}
use Rattle.image_findings.specs.declared.parts.Part.{Part}
use Rattle.image_findings.specs.declared.finding.What.{What}
use Rattle.image_findings.specs.declared.finding.What.TheVariants as what
use Rattle.image_findings.specs.declared.finding.Wrong.{Wrong}

abbrev pub receiver_of : Receiver → spec_names.Receiver
receiver_of r = record { name = r.name.now; is_open = r.is_open; most = r.most }

abbrev pub names_of : Names → spec_names.Names
names_of n = record { kind = n.kind; receivers = map receiver_of n.receivers.items; partitions = map (λ name. name.now) n.partitions.items }

abbrev pub part_of : Part → spec_parts.Part
part_of p = record { text = p.text.now; left = p.left }

abbrev pub parts_of : List Part → List spec_parts.Part
parts_of ps = map part_of ps

abbrev pub what_of : What → spec_what.What
what_of what.Unended = spec_what.Unended
what_of what.Carriage = spec_what.Carriage
what_of what.Comment = spec_what.Comment
what_of what.Empty = spec_what.Empty
what_of what.Tab = spec_what.Tab
what_of what.Nul = spec_what.Nul
what_of what.NoPart = spec_what.NoPart
what_of (what.NoTick text) = spec_what.NoTick text.now
what_of what.NoEvent = spec_what.NoEvent
what_of (what.NoKind text) = spec_what.NoKind text.now
what_of what.NoReceiver = spec_what.NoReceiver
what_of (what.NoName text) = spec_what.NoName text.now
what_of what.NoWords = spec_what.NoWords
what_of (what.NoWord text) = spec_what.NoWord text.now
what_of (what.More text) = spec_what.More text.now
what_of (what.Early tick before) = spec_what.Early tick before
what_of (what.UnknownReceiver text) = spec_what.UnknownReceiver text.now
what_of (what.Closed text) = spec_what.Closed text.now
what_of (what.UnknownPartition text) = spec_what.UnknownPartition text.now
what_of what.TooManyLines = spec_what.TooManyLines
what_of (what.TooManyWords words most) = spec_what.TooManyWords words most

abbrev pub wrong_of : Wrong → spec_what.Wrong
wrong_of w = record { left = w.left; what = what_of w.what }
