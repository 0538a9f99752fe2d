use Rattle.std.proofs.Common.{◌≡◌, ◌++◌, drop, map}
use Rattle.source_findings.specs.Views.{entries_of}
use Rattle.source_findings.proofs.judge.add_names.Given as goal

abbrev pub invariant-loop-entry : goal.invariant-loop-entry
invariant-loop-entry l =
    map (λ name. name.now) l.names.items ++ map (λ e. e.name) (entries_of (drop l.entry-index l.entries))
    ≡ map (λ name. name.now) l.fn.names.items ++ map (λ e. e.name) (entries_of l.entries)
