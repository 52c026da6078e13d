-- Which refusals of a database are faults.
use Rattle.std.specs.IoError.{error_kind}
use Rattle.std.specs.declared.io.Error.{Error as FileError}
use Rattle.std.specs.declared.io.ErrorKind.{ErrorKind}
use Rattle.std.specs.declared.io.ErrorKind.TheVariants.{OutOfMemory as NoRoom}
use Rattle.sqlite.specs.declared.error.Error.{Error}
use Rattle.sqlite.specs.declared.error.Error.TheVariants.{SqliteFailure}
use Rattle.sqlite.specs.declared.error.ErrorCode.TheVariants.{OutOfMemory}
use Rattle.wb_base.specs.declared.faults.KeepErr.{KeepErr}
use Rattle.wb_base.specs.declared.faults.KeepErr.TheVariants.{Memory, Failed}

-- want of memory is no fault, and every other error of the database is one
abbrev pub answer_to : Error → KeepErr
answer_to (SqliteFailure OutOfMemory) = Memory
answer_to _ = Failed

-- and so it is with a file that is looked into
abbrev pub answer_to_kind : ErrorKind → KeepErr
answer_to_kind NoRoom = Memory
answer_to_kind _ = Failed

abbrev pub answer_to_file : FileError → KeepErr
answer_to_file error = answer_to_kind (error_kind error)
