use Rattle.std.proofs.Common.{◌≡◌, ◌++◌, drop, map}
use Rattle.command_line.specs.Spelled.{spelled, spelled_from}
use Rattle.command_line.proofs.words.spelled.Given as goal

abbrev pub invariant-loop-word : goal.invariant-loop-word
invariant-loop-word g l =
    map (λ s. s.now) l.spelled.items ++ spelled_from l.is_open (map g.S.AsStr.text (drop l.word-index l.words)) ≡ spelled (map g.S.AsStr.text l.words)
