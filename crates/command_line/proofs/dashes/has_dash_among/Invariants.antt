use Rattle.std.proofs.Common.{◌≡◌, drop, map}
use Rattle.std.specs.List.{list_any}
use Rattle.clap.specs.Matches.{found_of}
use Rattle.clap.specs.Walk.{rows_of}
use Rattle.command_line.specs.Orders.{has_dash_at}
use Rattle.command_line.proofs.dashes.has_dash_among.Given as goal

abbrev pub invariant-loop-name : goal.invariant-loop-name
invariant-loop-name l =
    list_any (has_dash_at (rows_of (found_of l.found))) (map (λ s. s.now) (drop l.name-index l.names))
    ≡ list_any (has_dash_at (rows_of (found_of l.found))) (map (λ s. s.now) l.names)
