-- The ways in which a run ends: exit status and text.
use Rattle.std.specs.{Prelude.{ℕ, Bool, true, false, List, [], ◌++◌, codes, Result, Ok, Err}, Fmt.{decimal}}
use Rattle.rio_head.specs.{FaultName.{fault_name}, ReasonName.{name_of_reason}}
use Rattle.rio_num.specs.declared.no_memory.NoMemory.{NoMemory as NoMemoryFault}
use Rattle.rio_close.specs.declared.fault.ReportFault.{ReportFault, TheVariants.{BadFile as FileBad, NoMemory as OutOfMemory, HostFault, SayFault as NotSaid}}
use Rattle.rootio.specs.declared.status.Status.{Status, TheVariants.{Done, Usage, BadFile, DiskFault, InputFault, NoMemory, InputTooLong, ReadOnly, SayFault}}

abbrev pub status_code : Status → ℕ
status_code Done = 0
status_code Usage = 1
status_code (BadFile place kind) = 2
status_code DiskFault = 3
status_code InputFault = 4
status_code NoMemory = 5
status_code InputTooLong = 6
status_code (ReadOnly place reason) = 7
status_code SayFault = 8

abbrev pub status_text : Status → List ℕ
status_text Done = []
status_text Usage = codes "rootio: usage: rootio VERB FILE ARG..."
status_text (BadFile place kind) = codes "rootio: bad file at " ++ decimal place ++ codes ": " ++ fault_name kind
status_text DiskFault = codes "rootio: disk fault"
status_text InputFault = codes "rootio: input fault"
status_text NoMemory = codes "rootio: no memory"
status_text InputTooLong = codes "rootio: input too long"
status_text (ReadOnly place reason) = codes "rootio: read only at " ++ decimal place ++ codes ": " ++ name_of_reason reason
status_text SayFault = codes "rootio: output fault"

-- what is told on standard error: a line, and nothing where all was done
abbrev pub told_line : Status → List ℕ
told_line Done = []
told_line status = status_text status ++ codes "\n"

-- what is told on standard error, in a line more, of a file in use
abbrev pub in_use_line : Bool → List ℕ → List ℕ
in_use_line true file = codes "rootio: " ++ file ++ codes " is in use\n"
in_use_line false file = []

-- a run that found no memory before it began
abbrev pub status_or_no_memory : Result Status NoMemoryFault → Status
status_or_no_memory (Ok status) = status
status_or_no_memory (Err e) = NoMemory

-- how a run ended that told a listing
abbrev pub status_of : Result (Unit {0}) ReportFault → Status
status_of (Ok x) = Done
status_of (Err (FileBad place kind)) = BadFile place kind
status_of (Err OutOfMemory) = NoMemory
status_of (Err HostFault) = DiskFault
status_of (Err NotSaid) = SayFault
