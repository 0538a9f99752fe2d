-- What findings of lint say of runs.
use Rattle.std.proofs.Common.{◌≡◌, ℕ, zero, suc, List, [], Some}
use Rattle.std.proofs.lemmas.Option.{none-some}
use Rattle.apex_types.specs.declared.device.DeviceLine.{DeviceLine}
use Rattle.module_meaning.specs.Accepted.{IsJudged, IsModule}
use Rattle.module_meaning.specs.SourceMeaning.{source_trace}
use Rattle.module_meaning.specs.Table.{Partition, Table, at_number}
use Rattle.pal_meaning.specs.Grammar.{IsProgramOf}
use Rattle.pal_meaning.specs.Program.{Program}
use Rattle.pal_meaning.specs.Resolve.{resolve}
use Rattle.pal_meaning.specs.Syntax as written
use Rattle.lint.specs.Findings.{findings}
use Rattle.lint.specs.Lives.{found}
use Rattle.lint.specs.declared.finding.FindingKind.TheVariants as finding
use Rattle.lint_laws.specs.Among.{IsListed}
use Rattle.lint_laws.specs.Creation.{NeverHasState}
use Rattle.lint_laws.specs.NormalMode.{NeverNormal}
use Rattle.lint_laws.proofs.CreationSources.{is_process, never_creates, no_declaration}
use Rattle.lint_laws.proofs.Listing.{creation_is_listed, normal_is_listed}
use Rattle.lint_laws.proofs.NormalSources.{never_sets}
use Rattle.lint_laws.proofs.Partitions.{never_normal_run}
use Rattle.lint_laws.proofs.SleepingPartitions.{never_created_run}
use Rattle.lint_laws.proofs.Sourced.{program_at}

module _ (table : List ℕ) (sources : List (List ℕ)) (t : Table) (programs : List Program) (accepted : IsModule table sources t programs) (devices : List DeviceLine) (n p : ℕ) (row : Partition) (source : List ℕ) (tree : written.Program)
    (here : at_number t.partitions p ≡ Some row) (there : at_number sources p ≡ Some source) (is : IsProgramOf source tree) where
  judged : IsJudged t
  judged = (accepted.rows.0, accepted.rows.2)

  pub without_normal : IsListed (found finding.NeverNormal []) (findings t.partitions row.ports tree) → NeverNormal row.name (source_trace t programs devices n)
  without_normal h =
      let r = program_at t.partitions sources programs p row source tree accepted.accepted here there is in
      never_normal_run t programs devices n p row (resolve row.ports tree) judged here r.here (never_sets row.ports tree r.kinds (normal_is_listed t.partitions row.ports tree h))

  pub without_states : (number : ℕ) (process : written.Process) → at_number tree.processes number ≡ Some process → IsListed (found finding.NeverCreated process.name) (findings t.partitions row.ports tree)
      → NeverHasState row.name process.name (source_trace t programs devices n)
  without_states zero process e h = absurd (none-some process e)
  without_states (suc q) process e h =
      let r = program_at t.partitions sources programs p row source tree accepted.accepted here there is in
      never_created_run t programs devices n p row (resolve row.ports tree) (suc q) process.name judged here r.here (is_process row.ports tree q process e r.names) (never_creates row.ports tree q process e r.kinds (creation_is_listed t.partitions row.ports tree process.name (no_declaration row.ports tree q process e r.names) h))
