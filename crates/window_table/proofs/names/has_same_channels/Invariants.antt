use Rattle.std.proofs.Common.{◌≡◌, map, drop}
use Rattle.module_meaning.specs.TableRules.{same}
use Rattle.module_meaning.specs.Table.{has_twice}
use Rattle.window_table.specs.Views.{channel_text}
use Rattle.window_table.proofs.names.has_same_channels.Given as goal

abbrev pub invariant-loop-place : goal.invariant-loop-place
invariant-loop-place l = has_twice (λ a b. same a.name b.name) (map channel_text l.channels) ≡ has_twice (λ a b. same a.name b.name) (map channel_text (drop l.place l.channels))
