-- The surroundings of a partition, as the definitions see them.
use Rattle.isolation.specs.Alone.{Surroundings}
use Rattle.window_table.specs.Schedules.{schedule_of}
use Rattle.lone_partition.specs.declared.surroundings.Surroundings as code

abbrev pub around : code.Surroundings → Surroundings
around s = record { schedule = schedule_of s.schedule; fault = s.fault; ways_out = s.ways_out.items }
