-- The state that a command can change, at one time.
use Rattle.std.specs.Prelude.{◌≡◌, ℕ, Bool, List, Option}
use Rattle.streams.specs.States.{Seen, seen}
use Rattle.streams.specs.Contents.{Contents}
use Rattle.streams.specs.Reads.{Reads}

-- The files, the names of those that were not read or not written, the names of those that were read, and standard output.
pub record State : Type 0 where
  pub files : Option Contents
  pub failed : List (List ℕ)
  pub reads : Reads
  pub out : Seen

abbrev pub state_of : Option Contents → List (List ℕ) → Reads → Seen → State
state_of files failed reads out = record { files = files; failed = failed; reads = reads; out = out }

-- the state of files and of a stream, whose members these are
abbrev pub state : {F O : Type 0} → (F → Option Contents) → (F → List (List ℕ)) → (F → Reads) → (O → Option (List ℕ)) → (O → ℕ) → (O → Bool) → F → O → State
state contents failed reads taken failures is_flushed files out = state_of (contents files) (failed files) (reads files) (seen taken failures is_flushed out)

-- a stream has taken nothing between the two times, and did not fail
abbrev pub IsSilent : Seen → Seen → Type 0
IsSilent old new = (new.taken ≡ old.taken) × (new.failures ≡ old.failures)

-- neither the files nor standard output were touched
abbrev pub IsUntouched : State → State → Type 0
IsUntouched before after = (after.files ≡ before.files) × IsSilent before.out after.out
