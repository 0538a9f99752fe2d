-- The waiting lists by numbers. Each start of a wait takes a fresh and greater number, so that a
-- smaller number is an earlier start. First in, first out: a process is before another if its
-- number is smaller. By priority: if its priority is higher, or is the same and its number is
-- smaller. Of the processes that wait for an object, the process with no other before it is released
-- first. The state of a partition stores no number: each waiting list has their order.
use Rattle.std.specs.Prelude.{◌<◌, ℕ, List, [], ◌∷◌}
use Rattle.apex_types.specs.declared.codes.Discipline.{Discipline}
use Rattle.apex_types.specs.declared.codes.Discipline.TheVariants as discipline
use Rattle.apex_types.specs.declared.identity.ListKey.{ListKey}
use Rattle.apex_types.specs.declared.process.Entry.{Entry}
use Rattle.kernel_laws.specs.Choice.{IsAmong, IsBefore, AreNumbersBelow}
use Rattle.kernel_meaning.specs.Queues.{Queues, list_at}

-- a process is before another under a discipline
abbrev pub IsBeforeUnder : Discipline → (ℕ → ℕ) → Entry → Entry → Type 0
IsBeforeUnder discipline.Fifo number e f = number e.process.0 < number f.process.0
IsBeforeUnder discipline.Priority number e f = IsBefore number e f

-- a process that waits in the list, and that no other of the list is before
abbrev pub IsReleasedFirst : Discipline → (ℕ → ℕ) → List Entry → Entry → Type 0
IsReleasedFirst d number list e = IsAmong e list × ((f : Entry) → IsAmong f list → IsBeforeUnder d number f e → ⊥)

-- ---- a list that has the order of its numbers

abbrev pub IsBeforeEachUnder : Discipline → (ℕ → ℕ) → Entry → List Entry → Type 0
IsBeforeEachUnder d number e [] = Unit {0}
IsBeforeEachUnder d number e (x ∷ xs) = IsBeforeUnder d number e x × IsBeforeEachUnder d number e xs

abbrev pub IsOrderedUnder : Discipline → (ℕ → ℕ) → List Entry → Type 0
IsOrderedUnder d number [] = Unit {0}
IsOrderedUnder d number (e ∷ es) = IsBeforeEachUnder d number e es × IsOrderedUnder d number es

-- Each is before those after it, and the next number and those above it are not given yet.
pub record IsQueue (d : Discipline) (number : ℕ → ℕ) (next : ℕ) (list : List Entry) : Type 0 where
  pub ordered : IsOrderedUnder d number list
  pub below : AreNumbersBelow number next list

-- each list has its order under the discipline of its object
abbrev pub AreQueues : (ListKey → Discipline) → (ℕ → ℕ) → ℕ → Queues → Type 0
AreQueues disciplines number next queues = (k : ListKey) → IsQueue (disciplines k) number next (list_at queues k)
