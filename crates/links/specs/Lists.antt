-- Lists by their numbers.
use Rattle.std.specs.Prelude.{◌≡◌, ℕ, List, map, slice_set}
use Rattle.apex_types.specs.declared.codes.Discipline.{Discipline}
use Rattle.apex_types.specs.declared.process.Entry.{Entry}
use Rattle.kernel_meaning.specs.Queues.{without}
use Rattle.kernel_meaning.specs.Queues.{list_in, joined, no_entries}
use Rattle.kernel_laws.specs.Ready.{times_listed}

abbrev pub put_in : List (List Entry) → ℕ → List Entry → List (List Entry)
put_in lists number entries = slice_set lists number entries

-- the process leaves each list
abbrev pub without_in_each : ℕ → List (List Entry) → List (List Entry)
without_in_each p lists = map (without p) lists

-- the process is in no list
abbrev pub IsInNone : ℕ → List (List Entry) → Type 0
IsInNone p lists = (number : ℕ) → times_listed p (list_in lists number) ≡ 0

-- adds the entry to list `number`, and changes no other
abbrev pub joins_in : ℕ → Discipline → Entry → List (List Entry) → List (List Entry)
joins_in number d e lists = put_in lists number (joined d e (list_in lists number))

-- removes the entry's process from its list, and adds the entry to list `number`
abbrev pub moves_to : ℕ → Discipline → Entry → List (List Entry) → List (List Entry)
moves_to number d e lists = joins_in number d e (without_in_each e.process.0 lists)

-- all lists are empty
abbrev pub emptied_each : List (List Entry) → List (List Entry)
emptied_each lists = map no_entries lists
