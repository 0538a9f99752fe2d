-- A running module as the definitions see it, over any executor.
use Rattle.std.specs.Prelude.{List}
use Rattle.module_meaning.specs.Module as meaning
use Rattle.kernel_meaning.specs.Partition.{Member}
use Rattle.image.specs.Items.{channels_of}
use Rattle.partition_base.specs.declared.executor.Executor.{Ghosts}
use Rattle.regions.specs.Space.{Space}
use Rattle.window_table.specs.Schedules.{schedule_of}
use Rattle.module.specs.Members.{members_of}
use Rattle.image.specs.declared.value.Image.{Image}
use Rattle.module_meaning.specs.Standing.{Standing}
use Rattle.module.specs.Standing.{ticks_in}
use Rattle.module.specs.declared.member.Members.{Members}
use Rattle.module.specs.declared.member.Module.{Module}

abbrev pub plan_of : Image → meaning.Plan
plan_of p = record { schedule = schedule_of p.schedule; channels = channels_of p.channels.items; fault = p.fault }

abbrev pub members_in : {E : Type 0} → (g : Ghosts E Space) → Members E g → List (Member g.Control)
members_in g m = members_of g m.partitions.items m.memory

abbrev pub standing_of : {E : Type 0} → (g : Ghosts E Space) → Module E g → Standing g.Control
standing_of g m = record { members = members_in g m.members; now = m.now.0; origin = ticks_in m.origin }
