-- The view of the waiting lists, and their invariants.
use Rattle.std.specs.Prelude.{◌≡◌, List, length, map}
use Rattle.apex_types.specs.Limits.{MOST_PROCESSES}
use Rattle.apex_types.specs.declared.process.Entry.{Entry}
use Rattle.links.specs.OneHome.{entries_of, IsHomed}
use Rattle.links.specs.declared.links.Links.TheInside.{Inside}

abbrev pub lists_of : Inside → List (List Entry)
lists_of l = map entries_of l.lists.items

-- a home for each process, and each process only in its home
pub record IsSound (l : Inside) : Type 0 where
  pub complete : length l.homes ≡ MOST_PROCESSES
  pub homed : IsHomed (lists_of l) l.homes
