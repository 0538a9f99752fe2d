-- How great the ticks in a record are at most, so that no sum of them is too great for a word.
use Rattle.std.specs.Prelude.{◌≤◌, ℕ, List, [], ◌∷◌, Option, IfSome}
use Rattle.apex_types.specs.Limits.{MOST_TICKS}
use Rattle.apex_types.specs.declared.limits.TheConstants.{LATEST_RELEASE_POINT}
use Rattle.apex_types.specs.declared.identity.Ticks.{Ticks}
use Rattle.apex_types.specs.declared.process.ProcessStatus.{ProcessStatus}
use Rattle.apex_types.specs.declared.process.Wait.{Wait}
use Rattle.apex_types.specs.declared.process.Wait.TheVariants as wait
use Rattle.apex_types.specs.declared.row.ProcessRow.{ProcessRow}
use Rattle.machine_meaning.specs.MachineMeaning.{machine_row}

abbrev pub IsAtMost : ℕ → Option Ticks → Type 0
IsAtMost most count = IfSome count (λ (n : Ticks). n.0 ≤ most)

-- the delay of a process that waits for the normal start
abbrev pub IsDelayed : Wait → Type 0
IsDelayed (wait.NormalStart delay) = delay.0 ≤ MOST_TICKS
IsDelayed _ = Unit {0}

pub record AreBounded (release : Ticks) (period capacity deadline : Option Ticks) (reason : Wait) : Type 0 where
  pub released : release.0 ≤ MOST_TICKS
  pub every : IsAtMost MOST_TICKS period
  pub within : IsAtMost MOST_TICKS capacity
  pub until : IsAtMost LATEST_RELEASE_POINT deadline
  pub delayed : IsDelayed reason

abbrev pub IsBounded : ProcessStatus → Type 0
IsBounded r = AreBounded r.release r.period r.capacity r.deadline r.wait

abbrev pub AreAllBounded : List ProcessStatus → Type 0
AreAllBounded [] = Unit {0}
AreAllBounded (r ∷ rows) = IsBounded r × AreAllBounded rows

-- the period and the capacity of a process are at most 2^40 ticks
abbrev pub IsShort : ProcessRow → Type 0
IsShort row = IsBounded (machine_row row)

abbrev pub AreShort : List ProcessRow → Type 0
AreShort [] = Unit {0}
AreShort (row ∷ rows) = IsShort row × AreShort rows
