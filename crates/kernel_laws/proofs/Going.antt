-- How a step of the processes continues the numbers, with the takings that its proof gives.
use Rattle.std.specs.Prelude.{◌≡◌, ℕ, List, [], ◌∷◌, ◌++◌, Option, Some, map, slice_get}
use Rattle.apex_types.specs.declared.codes.Discipline.{Discipline}
use Rattle.apex_types.specs.declared.event.EventKind.{EventKind}
use Rattle.apex_types.specs.declared.identity.ListKey.{ListKey}
use Rattle.kernel_laws.specs.Numbers.{Taking, BecomesReady, GoesLast, BeginsToWait, AreNamed, IsInOrder, May, Numbers, ready_lines, take_all}
use Rattle.kernel_meaning.specs.Processes.{Processes}
use Rattle.kernel_meaning.specs.Step.{Step}

-- whatever numbers the lists had the order of, after these takings they have the order of the new ones
abbrev pub Follows : (ListKey → Discipline) → List Taking → Processes → Processes → Type 0
Follows disciplines takings s t = (n : Numbers) → IsInOrder disciplines n s.ready s.queues → IsInOrder disciplines (take_all takings n) t.ready t.queues

abbrev pub taken_ready : List (List ℕ) → Taking → List (Option (List ℕ))
taken_ready names (BecomesReady p) = slice_get names p ∷ []
taken_ready names (GoesLast p) = []
taken_ready names (BeginsToWait p) = []

-- the names of the processes that take numbers because they become ready, in their order
abbrev pub those_ready : List (List ℕ) → List Taking → List (Option (List ℕ))
those_ready names [] = []
those_ready names (t ∷ ts) = taken_ready names t ++ those_ready names ts

-- the names that these lines call ready
abbrev pub called : List EventKind → List (Option (List ℕ))
called ls = map Some (ready_lines ls)

-- ---- who takes a number though no line calls it ready

abbrev pub IsAllowed : May → Taking → Type 0
IsAllowed may (BecomesReady p) = Unit {0}
IsAllowed may (GoesLast p) = may.go_last ≡ Some p
IsAllowed may (BeginsToWait p) = may.begin_to_wait ≡ Some p

abbrev pub AreAllowed : May → List Taking → Type 0
AreAllowed may [] = Unit {0}
AreAllowed may (t ∷ ts) = IsAllowed may t × AreAllowed may ts

-- A step of the processes continues the numbers: the processes that its lines call ready take
-- numbers in the order of these lines; of the others, only those that may take a number do.
pub record Goes (disciplines : ListKey → Discipline) (names : List (List ℕ)) (may : May) (s : Processes) (t : Step Processes) : Type 0 where
  pub takings : List Taking
  pub follows : Follows disciplines takings s t.part
  pub named : AreNamed names t.part.rows
  pub told : those_ready names takings ≡ called t.lines
  pub allowed : AreAllowed may takings
