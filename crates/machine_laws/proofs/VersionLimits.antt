-- The limits of a version are small, and no greater than those of the third.
use Rattle.std.proofs.Common.{ℕ, ◌≤◌, ◌<◌, arith, lit<, ◌^◌}
use Rattle.apex_types.specs.declared.version.Limits.{Limits}
use Rattle.apex_types.specs.declared.limits.TheConstants.{MOST_PARTITIONS, MOST_PROCESSES, MOST_WORDS}
use Rattle.apex_types.specs.declared.version.ImageVersion.{ImageVersion}
use Rattle.apex_types.specs.declared.version.ImageVersion.TheVariants.{First, Second, Third}
use Rattle.apex_types.specs.Versions.{limits_of, third_limits}

-- each fits a byte
pub record AreBytes (limits : Limits) : Type 0 where
  pub partitions : limits.partitions < 2 ^ 8
  pub processes : limits.processes < 2 ^ 8
  pub words : limits.words < 2 ^ 8

pub limits_small : (v : ImageVersion) → AreBytes (limits_of v)
limits_small First = record { partitions = lit< tt; processes = lit< tt; words = lit< tt }
limits_small (Second costs) = record { partitions = lit< tt; processes = lit< tt; words = lit< tt }
limits_small (Third costs) = record { partitions = lit< tt; processes = lit< tt; words = lit< tt }

-- none is greater than that of the third version
pub record AreNarrow (limits : Limits) : Type 0 where
  pub partitions : limits.partitions ≤ third_limits.partitions
  pub processes : limits.processes ≤ third_limits.processes
  pub words : limits.words ≤ third_limits.words

pub limits_narrow : (v : ImageVersion) → AreNarrow (limits_of v)
limits_narrow First = record { partitions = omega arith; processes = omega arith; words = omega arith }
limits_narrow (Second costs) = record { partitions = omega arith; processes = omega arith; words = omega arith }
limits_narrow (Third costs) = record { partitions = omega arith; processes = omega arith; words = omega arith }
