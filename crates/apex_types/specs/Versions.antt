-- The versions of an image: their numbers, what a module with such an image costs, and its limits.
use Rattle.std.specs.Prelude.{ℕ}
use Rattle.apex_types.specs.Costs.{written_costs}
use Rattle.apex_types.specs.declared.cost.Costs.{Costs}
use Rattle.apex_types.specs.declared.version.Limits.{Limits}
use Rattle.apex_types.specs.Limits.{MOST_PARTITIONS, MOST_PROCESSES, MOST_WORDS}
use Rattle.apex_types.specs.declared.version.TheConstants.{FIRST_VERSION, SECOND_VERSION, THIRD_VERSION}
use Rattle.apex_types.specs.declared.version.ImageVersion.{ImageVersion}
use Rattle.apex_types.specs.declared.version.ImageVersion.TheVariants.{First, Second, Third}

abbrev pub number_of : ImageVersion → ℕ
number_of First = FIRST_VERSION
number_of (Second costs) = SECOND_VERSION
number_of (Third costs) = THIRD_VERSION

-- The first version has the costs that are written of Pal, the others their own.
abbrev pub costs_of : ImageVersion → Costs
costs_of First = written_costs
costs_of (Second costs) = costs
costs_of (Third costs) = costs

-- the limits of the first and of the second version
abbrev pub first_limits : Limits
first_limits = record { partitions = 16; processes = 31; words = 16 }

-- the limits of the third version, which are those of a table and of its sources
abbrev pub third_limits : Limits
third_limits = record { partitions = MOST_PARTITIONS; processes = MOST_PROCESSES; words = MOST_WORDS }

abbrev pub limits_of : ImageVersion → Limits
limits_of First = first_limits
limits_of (Second costs) = first_limits
limits_of (Third costs) = third_limits
