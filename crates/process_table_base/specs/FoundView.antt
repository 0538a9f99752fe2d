-- A runner that was found, as the definitions have it.
use Rattle.std.specs.Prelude.{Option, Some, None}
use Rattle.apex_types.specs.declared.identity.Runner.{Runner}
use Rattle.apex_types.specs.declared.process.ProcessStatus.{ProcessStatus}
use Rattle.process_table_base.specs.declared.found.Found.{Found}

-- the record of the runner found
abbrev pub record_of : Option Found → Option ProcessStatus
record_of None = None
record_of (Some f) = Some f.row

-- the runner found, with its record
abbrev pub pair_of : Option Found → Option (Runner × ProcessStatus)
pair_of None = None
pair_of (Some f) = Some (f.runner, f.row)
