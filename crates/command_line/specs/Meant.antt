-- What an order of the code asks for.
use Rattle.std.specs.Prelude.{◌≡◌, ℕ, List, Option, Some, None, map, option_map}
use Rattle.command_line.specs.Orders as asked
use Rattle.module.specs.States.{Moments, Wanted}
use Rattle.module.specs.Stating.{moments_in}
use Rattle.module.specs.declared.stating.Moments.{Moments as Code}
use Rattle.command_line.specs.Done.{IsSpacing}
use Rattle.command_line.specs.declared.order.InputsWords.{InputsWords}
use Rattle.command_line.specs.declared.order.NamedStateWords.{NamedStateWords}
use Rattle.command_line.specs.declared.order.ReplayWords.{ReplayWords}
use Rattle.command_line.specs.declared.order.RunWords.{RunWords}
use Rattle.command_line.specs.declared.order.StateWords.{StateWords}
use Rattle.command_line.specs.declared.order.Order.{Order}
use Rattle.command_line.specs.declared.order.Order.TheVariants as order

abbrev pub run_meant : RunWords → asked.Order
run_meant words = asked.Run words.image.now words.devices.now words.ticks.now (map (λ s. s.now) words.until.now)

abbrev pub replay_meant : ReplayWords → asked.Order
replay_meant words = asked.Replay words.image.now words.partition.now words.inputs.now words.ticks.now

abbrev pub inputs_meant : InputsWords → asked.Order
inputs_meant words = asked.Inputs words.image.now words.partition.now words.devices.now words.ticks.now

abbrev pub wanted_in : StateWords → Wanted
wanted_in words = record {
  form = words.form;
  partition = option_map (λ s. s.now) words.partition;
  moments = asked.moments_of (option_map (λ s. s.now) words.every) (map (λ s. s.now) words.until.now);
}

-- the moments that are read of the words, unless these give no number of ticks between states where they have to
abbrev pub ReadsMoments : Option (List ℕ) → Moments → Option Code → Type 0
ReadsMoments every moments None = IsSpacing every moments → ⊥
ReadsMoments every moments (Some read) = IsSpacing every moments × (moments_in read ≡ moments)

abbrev pub state_meant : StateWords → asked.Order
state_meant words = asked.ShowState words.image.now words.devices.now words.tick.now (option_map (λ s. s.now) words.every) (wanted_in words)

abbrev pub names_meant : NamedStateWords → asked.Order
names_meant words =
    asked.ShowNames words.state.image.now (map (λ s. s.now) words.sources.now) words.state.devices.now words.state.tick.now (wanted_in words.state)

abbrev pub meant : Order → asked.Order
meant order.First = asked.First
meant (order.Check names) = asked.Check names.table.now (map (λ s. s.now) names.sources.now)
meant (order.Build names image) = asked.Build names.table.now image.now (map (λ s. s.now) names.sources.now)
meant (order.Run words is_watched) = run_meant words
meant (order.Replay words) = replay_meant words
meant (order.Inputs words is_watched) = inputs_meant words
meant (order.State words) = state_meant words
meant (order.NamedState words) = names_meant words
meant (order.Cost names) = asked.Cost names.table.now (map (λ s. s.now) names.sources.now)
meant (order.Dis image) = asked.Dis image.now
meant (order.Upgrade old new) = asked.Upgrade old.now new.now
meant (order.Load form names) = asked.Load form names.table.now (map (λ s. s.now) names.sources.now)
meant (order.Lint names) = asked.Lint names.table.now (map (λ s. s.now) names.sources.now)
