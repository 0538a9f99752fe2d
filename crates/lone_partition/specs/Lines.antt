-- Lines that act each in its own tick, in the order of their ticks.
use Rattle.std.specs.Prelude.{◌≤◌, ◌==◌, ℕ, List, [], ◌∷◌, filter, map}
use Rattle.isolation.specs.declared.input.Input.{Input}
use Rattle.isolation.specs.declared.input.InputLine.{InputLine}

-- the lines of a tick, in their order
abbrev pub lines_in : {L : Type 0} → (L → ℕ) → ℕ → List L → List L
lines_in tick_of t lines = filter (λ l. tick_of l == t) lines

-- the ticks of these lines are in order, and none is below t
abbrev pub AreFrom : {L : Type 0} → (L → ℕ) → ℕ → List L → Type 0
AreFrom tick_of t [] = Unit {0}
AreFrom tick_of t (l ∷ ls) = (t ≤ tick_of l) × AreFrom tick_of (tick_of l) ls

-- ---- the inputs of a partition

abbrev pub tick_of_input : InputLine → ℕ
tick_of_input l = l.tick.0

-- the inputs are in the order of their ticks
abbrev pub AreInOrder : List InputLine → Type 0
AreInOrder lines = AreFrom tick_of_input 0 lines

-- the inputs of these lines
abbrev pub inputs_of : List InputLine → List Input
inputs_of lines = map (λ l. l.input) lines
