use Rattle.std.proofs.Common.{◌≡◌, ◌++◌, drop, map}
use Rattle.table_findings.specs.Names.{channel_names}
use Rattle.window_table.specs.Views.{channel_text}
use Rattle.table_findings.proofs.repeated.channel_names.Given as goal

abbrev pub invariant-loop-channel : goal.invariant-loop-channel
invariant-loop-channel l =
    map (λ name. name.now) l.names.items ++ channel_names (map channel_text (drop l.channel-index l.channels)) ≡ channel_names (map channel_text l.channels)
