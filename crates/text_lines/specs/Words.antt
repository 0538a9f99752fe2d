-- The numbers that fit a word.
use Rattle.std.specs.Prelude.{ℤ, List, [], ◌∷◌, FitsSigned}
use Rattle.std.specs.Int.{w64}

-- all are words of 64 bits
abbrev pub AreWords : List ℤ → Type 0
AreWords [] = Unit {0}
AreWords (w ∷ ws) = FitsSigned w64 w × AreWords ws
