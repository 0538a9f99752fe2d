-- How lines of errors are counted, those of one kind, partition and response together.
use Rattle.std.specs.Prelude.{◌≡◌, ◌⊎◌, ℕ, ◌+◌, List, [], ◌∷◌, ◌++◌, Option, Some, slice_get, slice_set}
use Rattle.apex_types.specs.declared.codes.ErrorKind.{ErrorKind}
use Rattle.apex_types.specs.declared.codes.Response.{Response}
use Rattle.trace_view.specs.Counting.{capped}
use Rattle.trace_view.specs.declared.errors.ErrorTotal.{ErrorTotal}

abbrev pub IsOf : Option (List ℕ) → ErrorKind → Response → ErrorTotal → Type 0
IsOf partition error response one = (one.partition ≡ partition) × (one.error ≡ error) × (one.response ≡ response)

-- none of them are
abbrev pub IsNoneOf : Option (List ℕ) → ErrorKind → Response → List ErrorTotal → Type 0
IsNoneOf partition error response totals = (k : ℕ) (one : ErrorTotal) → slice_get totals k ≡ Some one → IsOf partition error response one → ⊥

abbrev pub first_one : Option (List ℕ) → ErrorKind → Response → ErrorTotal
first_one partition error response = record { partition = partition; error = error; response = response; lines = 1 }

-- A line is counted where those of its kind are, and nowhere else. If it is the first of them, it begins their count.
abbrev pub IsCounted : Option (List ℕ) → ErrorKind → Response → List ErrorTotal → List ErrorTotal → Type 0
IsCounted partition error response old new =
    ((k : ℕ) × ((one : ErrorTotal) × ((slice_get old k ≡ Some one) × IsOf partition error response one × (new ≡ slice_set old k (record one { lines = capped (one.lines + 1) })))))
    ⊎ (IsNoneOf partition error response old × (new ≡ old ++ first_one partition error response ∷ []))
