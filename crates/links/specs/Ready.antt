-- The view of the ready lists, and their invariants.
use Rattle.std.specs.Prelude.{◌≡◌, List, length}
use Rattle.apex_types.specs.declared.limits.TheConstants.{PRIORITY_LEVELS}
use Rattle.apex_types.specs.declared.process.Entry.{Entry}
use Rattle.links.specs.Levels.{AreLevels, AreMarked, in_order}
use Rattle.links.specs.declared.ready.ReadyLists.TheInside.{Inside}

abbrev pub entries_of : Inside → List Entry
entries_of l = in_order l.lists

-- a list for each priority, with its own entries; the lists that are not empty are marked, and no others
pub record IsSound (l : Inside) : Type 0 where
  pub whole : length l.lists ≡ PRIORITY_LEVELS
  pub levels : AreLevels 0 l.lists
  pub marked : AreMarked l.marks l.lists
