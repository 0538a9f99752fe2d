-- The view of a due list, and its invariants.
use Rattle.std.specs.Prelude.{ℕ, ◌≤◌, List}
use Rattle.apex_types.specs.Limits.{MOST_PROCESSES}
use Rattle.links.specs.declared.dues.DueEntry.{DueEntry}
use Rattle.links.specs.declared.due_list.DueList.TheInside.{Inside}
use Rattle.links.specs.DueOrder.{AreInOrder, AreDueBelow, times_due}

abbrev pub entries_of : Inside → List DueEntry
entries_of l = l.dues.items

-- each process is in the list at most once, and the ticks are in order
pub record IsSound (l : Inside) : Type 0 where
  pub below : AreDueBelow MOST_PROCESSES (entries_of l)
  pub once : (p : ℕ) → times_due p (entries_of l) ≤ 1
  pub ordered : AreInOrder (entries_of l)
