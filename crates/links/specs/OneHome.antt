-- At most one list contains a process.
use Rattle.std.specs.Prelude.{ℕ, ◌≡◌, ◌==◌, List, Option, Some, None, slice_index_or, if◌then◌else◌}
use Rattle.arrayvec.specs.ArrayVec.{ArrayVec}
use Rattle.links.specs.declared.lists.ListId.{ListId}
use Rattle.apex_types.specs.declared.process.Entry.{Entry}
use Rattle.kernel_meaning.specs.Queues.{list_in}
use Rattle.kernel_laws.specs.Ready.{times_listed}

abbrev pub entries_of : ArrayVec Entry → List Entry
entries_of v = v.items

-- how often the list with this number contains a process: once if it is its home
abbrev pub once_at : Option ListId → ℕ → ℕ
once_at None number = 0
once_at (Some home) number = if home.0 == number then 1 else 0

-- each process is once in its home and in no other list
abbrev pub IsHomed : List (List Entry) → List (Option ListId) → Type 0
IsHomed lists homes = (p number : ℕ) → times_listed p (list_in lists number) ≡ once_at (slice_index_or homes p None) number
