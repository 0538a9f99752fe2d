use Rattle.std.proofs.Common.{◌≡◌, drop}
use Rattle.source_findings.specs.Roles.{role_of}
use Rattle.source_findings.specs.Views.{entries_of}
use Rattle.source_findings.proofs.roles.role_of.Given as goal

abbrev pub invariant-loop-entry : goal.invariant-loop-entry
invariant-loop-entry l = role_of l.name (entries_of (drop l.entry-index l.entries)) ≡ role_of l.name (entries_of l.entries)
