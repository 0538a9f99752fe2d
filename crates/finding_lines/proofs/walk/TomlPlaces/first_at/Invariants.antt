use Rattle.std.proofs.Common.{◌≡◌, drop}
use Rattle.finding_lines.specs.Entries.{first_at}
use Rattle.finding_lines.specs.Views.{entries_of, path_of}
use Rattle.finding_lines.proofs.walk.TomlPlaces.first_at.Given as goal

abbrev pub invariant-loop-entry : goal.invariant-loop-entry
invariant-loop-entry l = first_at (path_of l.path) (entries_of (drop l.entry-index l.self.entries.items)) ≡ first_at (path_of l.path) (entries_of l.self.entries.items)
