-- Why a call ends so that says a listing in pieces. Where memory or a call on the file fails, the lines that are complete are said,
-- which may fail too.
use Rattle.std.specs.Prelude.{Result, Ok, Err}
use Rattle.rio_head.specs.declared.fault.FileFault.{FileFault}
use Rattle.rio_host.specs.Host.{View, Rose}
use Rattle.rio_close.specs.{Causes.{NoDiskFault, NoSayFault}, declared.fault.ReportFault.{ReportFault, TheVariants.{BadFile, NoMemory, HostFault, SayFault}}}

abbrev pub IsPiecesCauseOf : {X : Type 0} → (FileFault → Type 0) → View → View → Result X ReportFault → Type 0
IsPiecesCauseOf tested old new (Ok x) = NoDiskFault old new × NoSayFault old new
IsPiecesCauseOf tested old new (Err (BadFile place kind)) = tested kind × NoDiskFault old new × NoSayFault old new
IsPiecesCauseOf tested old new (Err NoMemory) = NoDiskFault old new
IsPiecesCauseOf tested old new (Err HostFault) = Rose old.disk_faults new.disk_faults
IsPiecesCauseOf tested old new (Err SayFault) = NoDiskFault old new × Rose old.say_faults new.say_faults
