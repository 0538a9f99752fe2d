use Rattle.std.proofs.Common.{◌≡◌, ◌+◌, ◌++◌, map, drop}
use Rattle.window_table.specs.Views.{channel_view, partition_view}
use Rattle.lint.specs.Channels.{found_at_ports}
use Rattle.lint.specs.Views.{found_all}
use Rattle.lint.proofs.channels.add_at_ports.Given as goal

abbrev pub invariant-loop-row : goal.invariant-loop-row
invariant-loop-row l = record {
  counted : l.port ≡ l.row-index + 1;
  left : found_all l.findings.items ++ found_at_ports (map partition_view l.rows) (map channel_view l.channels) l.partition l.port (drop l.row-index l.ports) ≡ found_all l.fn.findings.items ++ found_at_ports (map partition_view l.rows) (map channel_view l.channels) l.partition 1 l.ports;
}
