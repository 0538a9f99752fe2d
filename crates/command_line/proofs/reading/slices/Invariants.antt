use Rattle.std.proofs.Common.{◌≡◌, ◌++◌, map, drop}
use Rattle.command_line.specs.Reading.{texts_of}
use Rattle.command_line.proofs.reading.slices.Given as goal

abbrev pub invariant-loop-source : goal.invariant-loop-source
invariant-loop-source l = map (λ s. s.now) l.slices.items ++ texts_of (drop l.source-index l.sources) ≡ texts_of l.sources
