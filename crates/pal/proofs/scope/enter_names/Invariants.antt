use Rattle.std.proofs.Common.{◌≡◌, ℕ, ◌+◌, ◌&&◌, List, ◌++◌, map, drop, is_ok}
use Rattle.pal_meaning.specs.Resolve.{Entry, find, own_entries}
use Rattle.pal_meaning.specs.WellFormed.{are_new}
use Rattle.pal_base.specs.View.{texts, name_of}
use Rattle.pal.specs.Tables.{entries_of}
use Rattle.pal.proofs.scope.enter_names.Given as goal

abbrev pub invariant-loop-index : goal.invariant-loop-index
invariant-loop-index l =
    let left = own_entries (l.before + l.index) (map (name_of (texts l.names.keys)) (drop l.index l.identifiers)) in
    let all = own_entries l.before (map (name_of (texts l.names.keys)) l.identifiers) in
    ((name : List ℕ) (rest : List Entry) → find name (entries_of l.own ++ (left ++ rest)) ≡ find name (entries_of l.fn.own ++ (all ++ rest)))
    × ((rest : List Entry) → (is_ok l.checked && are_new (entries_of l.declared) (entries_of l.own) (left ++ rest)) ≡ are_new (entries_of l.declared) (entries_of l.fn.own) (all ++ rest))
