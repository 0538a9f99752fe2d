use Rattle.std.proofs.Common.{◌≡◌, drop, map}
use Rattle.std.specs.List.{list_any}
use Rattle.command_line.specs.Orders.{is_dash}
use Rattle.command_line.proofs.dashes.are_dashed.Given as goal

abbrev pub invariant-loop-word : goal.invariant-loop-word
invariant-loop-word l = list_any is_dash (map (λ s. s.now) (drop l.word-index l.words)) ≡ list_any is_dash (map (λ s. s.now) l.words)
