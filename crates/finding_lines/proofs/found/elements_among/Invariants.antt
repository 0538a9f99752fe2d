use Rattle.std.proofs.Common.{◌≡◌, ◌+◌, ◌≤◌, drop}
use Rattle.finding_lines.specs.Entries.{elements_at}
use Rattle.finding_lines.specs.Views.{entries_of, owned_path}
use Rattle.finding_lines.proofs.found.elements_among.Given as goal

abbrev pub invariant-loop-entry : goal.invariant-loop-entry
invariant-loop-entry l =
    (l.elements ≤ l.entry-index)
    × (l.elements + elements_at (owned_path l.path) (entries_of (drop l.entry-index l.found)) ≡ elements_at (owned_path l.path) (entries_of l.found))
