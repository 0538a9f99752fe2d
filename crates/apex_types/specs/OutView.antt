-- How an output is kept: the words of all its lines and actions follow one another in one list.
use Rattle.std.specs.Prelude.{ℕ, ℤ, ◌+◌, ◌*◌, ◌≤◌, List, length, map, take, drop, vec_capacity}
use Rattle.std.specs.List.{AllByRecursion}
use Rattle.apex_types.specs.Limits.{MOST_WORDS}
use Rattle.apex_types.specs.declared.limits.TheConstants.{MOST_ACTIONS, MOST_EVENTS, MOST_OUT_WORDS}
use Rattle.apex_types.specs.Runners.{Action}
use Rattle.apex_types.specs.Output.{Output, action_of, event_of}
use Rattle.apex_types.specs.declared.event.EventKind.{EventKind}
use Rattle.apex_types.specs.declared.out.Out.TheInside as out
use Rattle.apex_types.specs.declared.out.Act.{Act}
use Rattle.apex_types.specs.declared.out.Line.{Line}
use Rattle.apex_types.specs.declared.out.Part.{Part}

abbrev pub part_of : List ℤ → Part → List ℤ
part_of words p = take p.count (drop p.from words)

abbrev pub lines_of : List ℤ → List Line → List EventKind
lines_of words lines = map (λ (l : Line). event_of l.kind (part_of words l.part)) lines

abbrev pub actions_of : List ℤ → List Act → List Action
actions_of words acts = map (λ (a : Act). action_of a.kind (part_of words a.part)) acts

abbrev pub output_of : out.Inside → Output
output_of o = record { lines = lines_of o.words.items o.lines.items; actions = actions_of o.words.items o.actions.items }

-- a part of `count` words
pub record IsPart (count : ℕ) (p : Part) : Type 0 where
  pub within : p.from + p.count ≤ count
  pub few : p.count ≤ MOST_WORDS

-- each line and each action has its part of the words, and there is memory for all that may come
pub record HasWords (o : out.Inside) : Type 0 where
  pub lines : AllByRecursion (λ (l : Line). IsPart (length o.words.items) l.part) o.lines.items
  pub actions : AllByRecursion (λ (a : Act). IsPart (length o.words.items) a.part) o.actions.items
  pub few : length o.words.items ≤ MOST_WORDS * (length o.lines.items + length o.actions.items)
  pub line_room : MOST_EVENTS ≤ vec_capacity o.lines
  pub action_room : MOST_ACTIONS ≤ vec_capacity o.actions
  pub word_room : MOST_OUT_WORDS ≤ vec_capacity o.words
