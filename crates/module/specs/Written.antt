-- The text written by a tick of the module, and device lines in the order of their ticks.
use Rattle.std.specs.Prelude.{false, ◌≡◌, ℕ, List}
use Rattle.apex_types.specs.Line.{text_of}
use Rattle.apex_types.specs.declared.device.DeviceLine.{DeviceLine}
use Rattle.module_meaning.specs.Module.{Course}
use Rattle.kernel_meaning.specs.Partition.{Member}
use Rattle.lone_partition.specs.Lines as of_any
use Rattle.lone_partition.specs.Sent.{Sent, HasSent}
use Rattle.module_meaning.specs.Standing.{Standing, after}

-- The module has completed one tick, unless the sink has failed, and the lines of the tick were to
-- be written.
pub record HasGoneOn {C : Type 0} (c : Course (List (Member C))) (old_standing new_standing : Standing C) (old new : Sent) : Type 0 where
  pub standing : new.failed ≡ false → new_standing ≡ after old_standing c
  pub sent : HasSent old new (text_of c.lines)

abbrev pub tick_of_line : DeviceLine → ℕ
tick_of_line l = l.tick.0

-- the ticks of these lines are in order, and none is below t
abbrev pub AreFrom : ℕ → List DeviceLine → Type 0
AreFrom t lines = of_any.AreFrom tick_of_line t lines
