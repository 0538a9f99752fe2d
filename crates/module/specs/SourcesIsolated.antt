-- The promise of isolation for building and running: the trace shows each partition as if it ran
-- alone.
use Rattle.std.specs.Prelude.{◌≡◌, ℕ, List, Option, Some}
use Rattle.std.specs.Io.KnownBytes.{Appends}
use Rattle.apex_types.specs.Line.{text_of}
use Rattle.apex_types.specs.declared.device.DeviceLine.{DeviceLine}
use Rattle.module_meaning.specs.Table.{Partition, Table, at_number}
use Rattle.pal_meaning.specs.Program.{Program}
use Rattle.module_meaning.specs.SourceMeaning.{source_trace, IsAcceptedRun}
use Rattle.isolation.specs.Brought.{part}
use Rattle.isolation.specs.SourceSlices.{source_inputs, source_slice, source_slice_trace}

-- For each partition of a table, the trace shows what the partition shows when it runs alone: from its own row
-- and program, its surroundings, and its inputs.
abbrev pub AreSourcesAlone : Table → List Program → List DeviceLine → ℕ → Type 0
AreSourcesAlone t programs lines n =
    (p : ℕ) (row : Partition) (program : Program) → at_number t.partitions p ≡ Some row → at_number programs p ≡ Some program
    → part row.name (source_trace t programs lines n) ≡ source_slice_trace (source_slice t programs p row program) (source_inputs t programs p lines n) n

pub record WritesSourcesAlone (t : Table) (programs : List Program) (lines : List DeviceLine) (n : ℕ) (old new : Option (List ℕ)) : Type 0 where
  pub written : Appends old new (text_of (source_trace t programs lines n))
  pub alone : AreSourcesAlone t programs lines n

-- Table and sources were accepted and a device text was taken, and what was written shows each partition as if it ran alone.
abbrev pub IsSourceIsolated : List ℕ → List (List ℕ) → List ℕ → ℕ → Option (List ℕ) → Option (List ℕ) → Type 0
IsSourceIsolated table sources devices n old new =
    (t : Table) × (programs : List Program) × (lines : List DeviceLine) × IsAcceptedRun table sources devices n t programs lines × WritesSourcesAlone t programs lines n old new
