-- The refusal for each fault of a file, and the names that are noted when a command is refused.
use Rattle.std.specs.Prelude.{◌≡◌, ℕ, List, [], ◌∷◌, ◌++◌, string_bytes}
use Rattle.std.specs.declared.alloc.Global.{Global}
use Rattle.std.specs.declared.string.String.{String}
use Rattle.streams.specs.declared.names.NameFault.{NameFault}
use Rattle.streams.specs.declared.names.NameFault.TheVariants as fault
use Rattle.command_line.specs.declared.refusal.Refusal.{Refusal}
use Rattle.command_line.specs.declared.refusal.Refusal.TheVariants.{Build, Run, Replay, Inputs, File, LongTable, Memory, Write}

abbrev pub of_file : String Global → NameFault → Refusal
of_file name (fault.Unavailable reason) = File name reason
of_file name fault.Memory = Memory

-- The file that a refusal names is noted as failed, except a table that was read and is too long; with a refusal that
-- names no file, no file is noted.
abbrev pub IsOfFailed : List (List ℕ) → List (List ℕ) → Refusal → Type 0
IsOfFailed old new (File name reason) = new ≡ old ++ string_bytes name ∷ []
IsOfFailed old new (Build fault) = new ≡ old
IsOfFailed old new (Run fault) = new ≡ old
IsOfFailed old new (Replay fault) = new ≡ old
IsOfFailed old new (Inputs fault) = new ≡ old
IsOfFailed old new (LongTable name) = new ≡ old
IsOfFailed old new Memory = new ≡ old
IsOfFailed old new Write = new ≡ old
