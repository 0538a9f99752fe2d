use Rattle.std.proofs.Common.{◌≡◌, ◌++◌, drop, map}
use Rattle.table_findings.specs.Limits.{channels_from}
use Rattle.table_findings.specs.Views.{findings_of}
use Rattle.window_table.specs.Views.{channel_text}
use Rattle.table_findings.proofs.bounds.channels.Given as goal

abbrev pub invariant-loop-index : goal.invariant-loop-index
invariant-loop-index l =
    findings_of l.found.items ++ channels_from l.index (map channel_text (drop l.index l.channels))
    ≡ findings_of l.fn.found.items ++ channels_from 0 (map channel_text l.channels)
