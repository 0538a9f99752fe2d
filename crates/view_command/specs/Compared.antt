-- The lines of two traces that are compared.
use Rattle.std.specs.Prelude.{◌≡◌, ℕ, ◌≤◌, List, Option, Some, None, filter}
use Rattle.std.specs.declared.alloc.Global.{Global}
use Rattle.std.specs.declared.string.String.{String}
use Rattle.apex_types.specs.Line.{partition_text}
use Rattle.apex_types.specs.declared.event.Event.{Event}
use Rattle.streams.specs.Contents.{Contents}
use Rattle.trace_lines.specs.Comparisons.{AreParts}
use Rattle.trace_lines.specs.Parts.{first_with, part, second_with}
use Rattle.trace_lines.specs.declared.part.Part.{Part}
use Rattle.trace_lines.specs.declared.side.Side.{Side}
use Rattle.trace_lines.specs.Filters.{is_word}
use Rattle.trace_text.specs.Trace.{IsReadAs}
use Rattle.view_command.specs.declared.views.Outcome.{Outcome}
use Rattle.view_command.specs.declared.views.Outcome.TheVariants.{Shown, Found}

-- the lines of the partition that is asked for, if one is
abbrev pub asked : Option (String Global) → List Event → List Event
asked p events = filter (λ (e : Event). is_word p (partition_text e.partition)) events

-- the text is this trace, if it is known
abbrev pub IsTextOf : Option (List ℕ) → List Event → Type 0
IsTextOf None events = Unit {0}
IsTextOf (Some text) events = IsReadAs text events

-- The texts are traces, and all their lines that are asked for were read side by side.
pub record AreCompared (text other : Option (List ℕ)) (p : Option (String Global)) (parts : List Part) : Type 0 where
  pub first : List Event
  pub second : List Event
  pub first_text : IsTextOf text first
  pub second_text : IsTextOf other second
  pub tick : ℕ
  pub are_read : AreParts parts tick (asked p first) (asked p second)

-- ---- a line that may not be there

abbrev pub tick_behind : ℕ → Option Event → ℕ
tick_behind now None = now
tick_behind now (Some e) = e.tick.0

abbrev pub IsInOrder : ℕ → Option Event → Type 0
IsInOrder now None = Unit {0}
IsInOrder now (Some e) = now ≤ e.tick.0

abbrev pub first_behind : Side → Option Event → List Event → List Event
first_behind s None a = a
first_behind s (Some e) a = first_with s e a

abbrev pub second_behind : Side → Option Event → List Event → List Event
second_behind s None b = b
second_behind s (Some e) b = second_with s e b

-- ---- what the status says

-- the lines that are asked for are the same in each partition, or there is one where they are not
abbrev pub AreToldBy : Outcome → Option (String Global) → List Event → List Event → Type 0
AreToldBy Shown p a b = (q : Option (List ℕ)) → part q (asked p a) ≡ part q (asked p b)
AreToldBy Found p a b = (q : Option (List ℕ)) × (part q (asked p a) ≡ part q (asked p b) → ⊥)

-- the texts of these names, if the texts are known
abbrev pub AreToldIn : Option Contents → List ℕ → List ℕ → Option (String Global) → Outcome → Type 0
AreToldIn None name other p o = Unit {0}
AreToldIn (Some texts) name other p o =
    (a : List Event) × ((b : List Event) × ((text : List ℕ) × ((texts name ≡ Some text) × IsReadAs text a)) × ((text : List ℕ) × ((texts other ≡ Some text) × IsReadAs text b)) × AreToldBy o p a b)
