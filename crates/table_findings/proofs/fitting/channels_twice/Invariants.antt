use Rattle.std.proofs.Common.{◌≡◌, ◌++◌, drop, map}
use Rattle.table_findings.specs.Ends.{twice_from}
use Rattle.table_findings.specs.Views.{findings_of}
use Rattle.window_table.specs.Views.{channel_text}
use Rattle.table_findings.proofs.fitting.channels_twice.Given as goal

abbrev pub invariant-loop-index : goal.invariant-loop-index
invariant-loop-index l =
    findings_of l.found.items ++ twice_from (map (λ text. text.now) l.seen.items) l.index (map channel_text (drop l.index l.channels))
    ≡ findings_of l.fn.found.items ++ twice_from (map (λ text. text.now) l.fn.seen.items) 0 (map channel_text l.channels)
