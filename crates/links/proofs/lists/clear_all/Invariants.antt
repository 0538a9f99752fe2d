use Rattle.links.proofs.Prelude.{◌≡◌, ◌≤◌, ◌++◌, length, map, take, drop, emptied_each, entries_of}
use Rattle.links.proofs.lists.clear_all.Given as goal

abbrev pub invariant-loop-entries : goal.invariant-loop-entries
invariant-loop-entries l = (l.entries-index ≤ length l.entries-items) × (map entries_of (take l.entries-index l.entries-items) ++ emptied_each (map entries_of (drop l.entries-index l.entries-items)) ≡ emptied_each (map entries_of l.fn.lists.items))
