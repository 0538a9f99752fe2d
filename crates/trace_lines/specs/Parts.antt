-- The lines of a partition in two traces, and where they differ first.
use Rattle.std.specs.Prelude.{◌≡◌, ◌≢◌, ℕ, ◌-◌, ◌^◌, ◌<◌, ◌≤◌, List, [], ◌∷◌, ◌++◌, length, reverse, take, min, filter, Option, Some, None}
use Rattle.apex_types.specs.declared.event.Event.{Event}
use Rattle.trace_lines.specs.declared.part.Part.{Part}
use Rattle.trace_lines.specs.declared.part.Apart.{Apart}
use Rattle.trace_lines.specs.declared.part.Difference.{Difference}
use Rattle.trace_lines.specs.declared.rest.Rest.{Rest}
use Rattle.trace_lines.specs.declared.side.Side.{Side}
use Rattle.trace_lines.specs.declared.side.Side.TheVariants as side
use Rattle.trace_stays.specs.Same.{is_same_partition}

-- ---- partitions

-- the lines of a partition, in their order
abbrev pub part : Option (List ℕ) → List Event → List Event
part p events = filter (λ (e : Event). is_same_partition p e.partition) events

-- ---- what both have

-- the last three lines, the latest first
abbrev pub last_three : List Event → List Event
last_three lines = take 3 (reverse lines)

-- ---- what one has from the first difference on

abbrev pub first_line : List Event → Option Event
first_line [] = None
first_line (e ∷ es) = Some e

-- counts stop at the greatest number of 64 bits
abbrev pub count : List Event → ℕ
count lines = min (length lines) (2 ^ 64 - 1)

pub record IsRest (r : Rest) (lines : List Event) : Type 0 where
  pub first : r.line ≡ first_line lines
  pub number : r.lines ≡ count lines

-- two first lines are not the same one, or only one of them is there
abbrev pub AreOther : Option Event → Option Event → Type 0
AreOther None None = ⊥
AreOther None (Some y) = Unit {0}
AreOther (Some x) None = Unit {0}
AreOther (Some x) (Some y) = x ≢ y

-- The lines of the first and of the second trace: they begin with the same lines, of which these are the last three, and then differ.
pub record IsFirst (before : List Event) (x y : Rest) (a b : List Event) : Type 0 where
  pub both : List Event
  pub first : List Event
  pub second : List Event
  pub first_part : a ≡ both ++ first
  pub second_part : b ≡ both ++ second
  pub shown : before ≡ last_three both
  pub first_rest : IsRest x first
  pub second_rest : IsRest y second
  pub differ : AreOther x.line y.line

-- where the lines differ first, if they do
abbrev pub IsJudged : Option Difference → List Event → List Event → Type 0
IsJudged None a b = a ≡ b
IsJudged (Some d) a b = IsFirst d.before.items d.first d.second a b

-- ---- lines that are read one by one

abbrev pub other_side : Side → Side
other_side side.First = side.Second
other_side side.Second = side.First

-- the lines of one trace, and of the other
abbrev pub lines_of : Side → List Event → List Event → List Event
lines_of side.First a b = a
lines_of side.Second a b = b

-- All lines of one are lines of the other, which is ahead by those that wait.
pub record IsLevel (ahead : Side) (waiting before a b : List Event) : Type 0 where
  pub waits : lines_of ahead a b ≡ lines_of (other_side ahead) a b ++ waiting
  pub shown : before ≡ last_three (lines_of (other_side ahead) a b)

abbrev pub IsPartAs : Option Apart → Part → List Event → List Event → Type 0
IsPartAs None p a b = IsLevel p.ahead p.waiting.items p.before.items a b
IsPartAs (Some d) p a b = IsFirst p.before.items d.first d.second a b

-- no line follows
abbrev pub IsEndedAs : Option Apart → Part → List Event → List Event → Type 0
IsEndedAs None p a b = a ≡ b
IsEndedAs (Some d) p a b = IsFirst p.before.items d.first d.second a b

-- the lines that were read so far of a partition
abbrev pub IsPart : Part → List Event → List Event → Type 0
IsPart p a b = IsPartAs p.apart p a b

-- what one trace has from the first difference on, and what the other has
abbrev pub apart_of : Side → Rest → Rest → Apart
apart_of side.First one other = record { first = one; second = other }
apart_of side.Second one other = record { first = other; second = one }

-- one more line of the first trace, or of the second
abbrev pub first_with : Side → Event → List Event → List Event
first_with side.First e a = a ++ e ∷ []
first_with side.Second e a = a

abbrev pub second_with : Side → Event → List Event → List Event
second_with side.First e b = b
second_with side.Second e b = b ++ e ∷ []

-- a line for which the other trace has none so far is earlier than this tick
abbrev pub IsAlone : Option Event → Option Event → ℕ → Type 0
IsAlone None None now = ⊥
IsAlone (Some x) None now = x.tick.0 < now
IsAlone None (Some y) now = y.tick.0 < now
IsAlone (Some x) (Some y) now = Unit {0}

abbrev pub IsSettled : Option Apart → ℕ → Type 0
IsSettled None now = Unit {0}
IsSettled (Some d) now = IsAlone d.first.line d.second.line now

-- the first of these lines is earlier than this tick
abbrev pub IsFrontBefore : List Event → ℕ → Type 0
IsFrontBefore [] now = Unit {0}
IsFrontBefore (e ∷ es) now = e.tick.0 < now

-- Whatever lines were read before, none of them later, this line is read after them.
pub record IsStep (s : Side) (e : Event) (old new : Part) : Type 0 where
  pub partition : new.partition ≡ old.partition
  pub lines : (now : ℕ) (a b : List Event) → IsPart old a b → IsSettled old.apart now → now ≤ e.tick.0 → IsPart new (first_with s e a) (second_with s e b) × IsSettled new.apart e.tick.0
