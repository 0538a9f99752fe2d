-- The findings of the code as findings of the definitions.
use Rattle.std.specs.Prelude.{ℕ, List, map, option_copied}
use Rattle.table_findings.specs.Subjects as spec_subject
use Rattle.table_findings.specs.Findings as spec_finding
use Rattle.table_findings.specs.Names as spec_names
use Rattle.table_findings.specs.Ends as spec_ends
use Rattle.module_meaning.specs.TableRules.{PortText}
use Rattle.window_table.specs.Views.{port_text}
use Rattle.table_findings.specs.declared.fitting.End.{End}
use Rattle.table_findings.specs.declared.fitting.Port as code_port
use Rattle.table_findings.specs.declared.fitting.FirstPort.{FirstPort}
use Rattle.table_findings.specs.declared.repeated.Named.{Named}
use Rattle.table_findings.specs.declared.repeated.Named.TheVariants as named
use Rattle.table_findings.specs.declared.subject.Row.{Row}
use Rattle.table_findings.specs.declared.subject.Subject.{Subject}
use Rattle.table_findings.specs.declared.subject.Subject.TheVariants as subject
use Rattle.table_findings.specs.declared.finding.Finding.{Finding}
use Rattle.table_findings.specs.declared.finding.What.{What}
use Rattle.table_findings.specs.declared.finding.What.TheVariants as what

abbrev pub row_of : Row → spec_subject.Row
row_of r = record { index = r.index; name = option_copied r.name }

abbrev pub subject_of : Subject → spec_subject.Subject
subject_of subject.Module = spec_subject.Module
subject_of subject.Costs = spec_subject.Costs
subject_of (subject.Partition row) = spec_subject.Partition (row_of row)
subject_of (subject.Health row) = spec_subject.Health (row_of row)
subject_of (subject.Port port partition) = spec_subject.Port (row_of port) (row_of partition)
subject_of (subject.Window row) = spec_subject.Window (row_of row)
subject_of (subject.Channel row) = spec_subject.Channel (row_of row)
subject_of (subject.Destination index row) = spec_subject.Destination index (row_of row)

abbrev pub named_of : Named → spec_names.Named
named_of named.Partitions = spec_names.Partitions
named_of named.Channels = spec_names.Channels
named_of (named.Ports row) = spec_names.Ports (row_of row)

abbrev pub what_of : What → spec_finding.What
what_of (what.Missing key part) = spec_finding.Missing key.now part
what_of (what.Unknown part) = spec_finding.Unknown part
what_of (what.OtherType wanted found) = spec_finding.OtherType wanted.now found.now
what_of (what.NoWord text words) = spec_finding.NoWord text.now words
what_of (what.Outside number low high) = spec_finding.Outside number low high
what_of (what.Count number low high) = spec_finding.Count number low high
what_of (what.NoName text) = spec_finding.NoName text.now
what_of (what.SameName name earlier) = spec_finding.SameName name.now earlier
what_of (what.NoPartition text near) = spec_finding.NoPartition text.now (option_copied near)
what_of (what.NoEnd text) = spec_finding.NoEnd text.now
what_of (what.WrongDirection text as_source) = spec_finding.WrongDirection text.now as_source
what_of (what.OtherKind other) = spec_finding.OtherKind other.now
what_of (what.OtherWords words other other_words) = spec_finding.OtherWords words other.now other_words
what_of what.SamePartition = spec_finding.SamePartition
what_of what.DeviceTwice = spec_finding.DeviceTwice
what_of (what.SplitQueue number) = spec_finding.SplitQueue number
what_of (what.PortTwice text) = spec_finding.PortTwice text.now
what_of (what.Below number low) = spec_finding.Below number low
what_of (what.Overlaps begin before) = spec_finding.Overlaps begin before
what_of (what.PastFrame end frame) = spec_finding.PastFrame end frame
what_of (what.OddPeriod period frame) = spec_finding.OddPeriod period frame
what_of (what.Short from offered wanted) = spec_finding.Short from offered wanted
what_of what.NoRelease = spec_finding.NoRelease

abbrev pub finding_of : Finding → spec_finding.Finding
finding_of f = record { subject = subject_of f.subject; key = option_copied f.key; what = what_of f.what }

abbrev pub findings_of : List Finding → List spec_finding.Finding
findings_of fs = map finding_of fs

-- ---- ends

abbrev pub end_of : End → spec_ends.End
end_of e = record { subject = subject_of e.subject; key = option_copied e.key; text = e.text.now }

abbrev pub port_of : code_port.Port → ℕ × PortText
port_of p = (p.partition, port_text p.row)

abbrev pub first_of : FirstPort → List ℕ × PortText
first_of p = (p.text.now, port_text p.row)
