-- Another state of a process.
use Rattle.std.specs.Prelude.{ℕ, List, Option, Some, None, slice_set}
use Rattle.apex_types.specs.declared.codes.ProcessState.{ProcessState}
use Rattle.apex_types.specs.declared.process.ProcessStatus.{ProcessStatus}

-- the records, where the record at `place` has another state; without a record, unchanged
abbrev pub put_state : ProcessState → ℕ → Option ProcessStatus → List ProcessStatus → List ProcessStatus
put_state state place None rows = rows
put_state state place (Some row) rows = slice_set rows place (record row { state = state })
