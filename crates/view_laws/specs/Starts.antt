-- How often a partition starts in a mode and with a condition, by the kernel and in a summary.
use Rattle.std.specs.Prelude.{◌+◌, ℕ, Bool, true, false, ◌&&◌, nat_le, List, [], ◌∷◌}
use Rattle.apex_types.specs.declared.codes.Mode.{Mode}
use Rattle.apex_types.specs.declared.codes.Mode.TheVariants as mode
use Rattle.apex_types.specs.declared.codes.StartCondition.{StartCondition}
use Rattle.apex_types.specs.declared.codes.StartCondition.TheVariants as condition
use Rattle.state_laws.specs.Told.{Start}
use Rattle.trace_view.specs.declared.conditions.Conditions.{Conditions}
use Rattle.trace_view.specs.declared.starts.Starts.{Starts}
use Rattle.trace_windows.specs.Uses.{one_if}
use Rattle.view_laws.specs.Modes.{is_same_mode}

abbrev pub is_same_condition : StartCondition → StartCondition → Bool
is_same_condition condition.NormalStart condition.NormalStart = true
is_same_condition condition.PartitionRestart condition.PartitionRestart = true
is_same_condition condition.HmModuleRestart condition.HmModuleRestart = true
is_same_condition condition.HmPartitionRestart condition.HmPartitionRestart = true
is_same_condition _ _ = false

-- ---- a run

abbrev pub is_in_mode : Mode → Start → Bool
is_in_mode m s = is_same_mode m s.mode

abbrev pub is_with : StartCondition → Start → Bool
is_with c s = is_same_condition c s.condition

-- how many of these starts are in a tick from one on, and pass a test
abbrev pub starts_when : (Start → Bool) → (from : ℕ) → List Start → ℕ
starts_when test from [] = 0
starts_when test from (s ∷ ss) = one_if (nat_le from s.tick && test s) + starts_when test from ss

-- ---- a summary

-- those in a mode
abbrev pub starts_for : Mode → Starts → ℕ
starts_for mode.ColdStart s = s.cold
starts_for mode.WarmStart s = s.warm
starts_for _ s = 0

-- those with a condition
abbrev pub starts_with : StartCondition → Conditions → ℕ
starts_with condition.NormalStart c = c.normal_start
starts_with condition.PartitionRestart c = c.partition_restart
starts_with condition.HmModuleRestart c = c.hm_module_restart
starts_with condition.HmPartitionRestart c = c.hm_partition_restart
