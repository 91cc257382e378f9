-- Why a call on a folder failed, by the kind of its error.
use Rattle.std.specs.IoError.{error_kind}
use Rattle.std.specs.declared.io.Error.{Error}
use Rattle.std.specs.declared.io.ErrorKind.{ErrorKind}
use Rattle.std.specs.declared.io.ErrorKind.TheVariants as kind
use Rattle.folder_walk.specs.declared.obstacle.Reason.{Reason}
use Rattle.folder_walk.specs.declared.obstacle.Reason.TheVariants as reason

abbrev pub read_reason : ErrorKind → Reason
read_reason kind.NotADirectory = reason.NoFolder
read_reason _ = reason.Unreadable

abbrev pub write_reason : ErrorKind → Reason
write_reason kind.InvalidFilename = reason.LongName
write_reason kind.StorageFull = reason.NoRoom
write_reason kind.QuotaExceeded = reason.NoRoom
write_reason kind.FileTooLarge = reason.NoRoom
write_reason kind.NotADirectory = reason.NoFolder
write_reason _ = reason.Unwritable

abbrev pub reading : Error → Reason
reading error = read_reason (error_kind error)

abbrev pub writing : Error → Reason
writing error = write_reason (error_kind error)
