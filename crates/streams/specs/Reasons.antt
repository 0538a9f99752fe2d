-- The reason for each kind of error.
use Rattle.std.specs.Prelude.{Bool, true, false}
use Rattle.std_io.specs.declared.io.kind.ErrorKind.{ErrorKind}
use Rattle.std_io.specs.declared.io.kind.ErrorKind.TheVariants as kind
use Rattle.streams.specs.declared.names.Reason.{Reason}
use Rattle.streams.specs.declared.names.Reason.TheVariants as reason

abbrev pub reason_of : ErrorKind → Reason
reason_of kind.NotFound = reason.Missing
reason_of kind.NotADirectory = reason.NotInFolder
reason_of kind.IsADirectory = reason.Folder
reason_of kind.PermissionDenied = reason.Denied
reason_of kind.ReadOnlyFilesystem = reason.Unwritable
reason_of kind.StorageFull = reason.Full
reason_of kind.QuotaExceeded = reason.Full
reason_of kind.BrokenPipe = reason.Left
reason_of k = reason.Other

-- the same, where a folder in the name may be missing: then it is this folder that was not found
abbrev pub not_found : Bool → Reason
not_found false = reason.Missing
not_found true = reason.NoFolder

abbrev pub named_reason : ErrorKind → Bool → Reason
named_reason kind.NotFound lacks_folder = not_found lacks_folder
named_reason k lacks_folder = reason_of k
