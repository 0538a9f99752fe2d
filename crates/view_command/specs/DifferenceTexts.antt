-- The text of differences.
use Rattle.std.specs.Prelude.{ℕ, min, List, [], ◌∷◌, ◌++◌, Option, Some, None, codes}
use Rattle.std.specs.Fmt.{decimal}
use Rattle.apex_types.specs.Line.{line_of}
use Rattle.apex_types.specs.declared.event.Event.{Event}
use Rattle.trace_lines.specs.declared.part.Difference.{Difference}

-- the tick of the earlier of two lines
abbrev pub tick_of : Option Event → Option Event → ℕ
tick_of None None = 0
tick_of (Some one) None = one.tick.0
tick_of None (Some other) = other.tick.0
tick_of (Some one) (Some other) = min one.tick.0 other.tick.0

abbrev pub heading : Option (List ℕ) → ℕ → List ℕ
heading (Some name) tick = codes "partition " ++ (name ++ (codes " differs from tick " ++ (decimal tick ++ codes " on\n")))
heading None tick = codes "the module differs from tick " ++ (decimal tick ++ codes " on\n")

abbrev pub line : List ℕ → Event → List ℕ
line front e = front ++ line_of e

-- the lines before it, the latest of them last
abbrev pub before : List Event → List ℕ
before [] = []
before (latest ∷ earlier) = before earlier ++ line (codes "  ") latest

-- the next line of a trace, or that there is none
abbrev pub rest : List ℕ → Option Event → List ℕ
rest front None = front ++ codes "no more lines\n"
rest front (Some e) = line front e

abbrev pub numbers : ℕ → ℕ → List ℕ
numbers first second = codes "  lines from there on: " ++ (decimal first ++ (codes " in the first trace, " ++ (decimal second ++ codes " in the second\n")))

abbrev pub difference : Difference → List ℕ
difference d =
    heading d.partition (tick_of d.first.line d.second.line) ++ before d.before.items
    ++ rest (codes "- ") d.first.line ++ rest (codes "+ ") d.second.line ++ numbers d.first.lines d.second.lines

-- all differences, one after the other
abbrev pub report : List Difference → List ℕ
report [] = []
report (d ∷ ds) = difference d ++ report ds
