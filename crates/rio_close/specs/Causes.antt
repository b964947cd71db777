-- Why a call over a host fails. A count of faults rises where a call of the host failed, and only there.
use Rattle.std.specs.Prelude.{◌≡◌, Result, Ok, Err}
use Rattle.rio_head.specs.declared.fault.FileFault.{FileFault, TheVariants.{NotRoot, Short, BadBegin, BadUnits, NotClosed, BadDir, BadKeyList, Compressed, BadInfo}}
use Rattle.rio_host.specs.{Host.{View, Rose}, declared.reading.ReadFault.{ReadFault, TheVariants.{NoMemory as NoRoom, HostFault as DiskFault}}}
use Rattle.rio_close.specs.declared.fault.ReportFault.{ReportFault, TheVariants.{BadFile, NoMemory, HostFault, SayFault}}

-- why bytes could not be read, as a fault of a report
abbrev pub fault_of_read : ReadFault → ReportFault
fault_of_read NoRoom = NoMemory
fault_of_read DiskFault = HostFault

-- no call on the file failed
abbrev pub NoDiskFault : View → View → Type 0
NoDiskFault old new = new.disk_faults ≡ old.disk_faults

abbrev pub NoSayFault : View → View → Type 0
NoSayFault old new = new.say_faults ≡ old.say_faults

-- a kind of fault that header, directory record and key list can have
abbrev pub IsTested : FileFault → Type 0
IsTested NotRoot = Unit {0}
IsTested Short = Unit {0}
IsTested BadBegin = Unit {0}
IsTested BadUnits = Unit {0}
IsTested NotClosed = Unit {0}
IsTested BadDir = Unit {0}
IsTested BadKeyList = Unit {0}
IsTested Compressed = ⊥
IsTested BadInfo = ⊥

-- a call that tests every rule
abbrev pub AnyKind : FileFault → Type 0
AnyKind kind = Unit {0}

-- a call that tests none
abbrev pub NoKind : FileFault → Type 0
NoKind kind = ⊥

-- a call that tests nothing of what it reads
abbrev pub IsCallCause : {X : Type 0} → View → View → Result X ReportFault → Type 0
IsCallCause old new (Ok x) = NoDiskFault old new
IsCallCause old new (Err (BadFile place kind)) = ⊥
IsCallCause old new (Err NoMemory) = NoDiskFault old new
IsCallCause old new (Err HostFault) = Rose old.disk_faults new.disk_faults
IsCallCause old new (Err SayFault) = ⊥

-- a function that calls no host, and tests these kinds of fault
abbrev pub IsOwnCauseOf : {X : Type 0} → (FileFault → Type 0) → Result X ReportFault → Type 0
IsOwnCauseOf tested (Ok x) = Unit {0}
IsOwnCauseOf tested (Err (BadFile place kind)) = tested kind
IsOwnCauseOf tested (Err NoMemory) = Unit {0}
IsOwnCauseOf tested (Err HostFault) = ⊥
IsOwnCauseOf tested (Err SayFault) = ⊥

-- a call that reads and tests these kinds of fault, and says nothing
abbrev pub IsHostCauseOf : {X : Type 0} → (FileFault → Type 0) → View → View → Result X ReportFault → Type 0
IsHostCauseOf tested old new (Ok x) = NoDiskFault old new
IsHostCauseOf tested old new (Err (BadFile place kind)) = tested kind × NoDiskFault old new
IsHostCauseOf tested old new (Err NoMemory) = NoDiskFault old new
IsHostCauseOf tested old new (Err HostFault) = Rose old.disk_faults new.disk_faults
IsHostCauseOf tested old new (Err SayFault) = ⊥

-- a call that reads and tests these kinds of fault, and then says a text
abbrev pub IsSayCauseOf : {X : Type 0} → (FileFault → Type 0) → View → View → Result X ReportFault → Type 0
IsSayCauseOf tested old new (Ok x) = NoDiskFault old new × NoSayFault old new
IsSayCauseOf tested old new (Err (BadFile place kind)) = tested kind × NoDiskFault old new × NoSayFault old new
IsSayCauseOf tested old new (Err NoMemory) = NoDiskFault old new × NoSayFault old new
IsSayCauseOf tested old new (Err HostFault) = Rose old.disk_faults new.disk_faults × NoSayFault old new
IsSayCauseOf tested old new (Err SayFault) = NoDiskFault old new × Rose old.say_faults new.say_faults

-- the same for what reads header, directory record and key list alone
abbrev pub IsOwnCause : {X : Type 0} → Result X ReportFault → Type 0
IsOwnCause result = IsOwnCauseOf IsTested result

abbrev pub IsHostCause : {X : Type 0} → View → View → Result X ReportFault → Type 0
IsHostCause old new result = IsHostCauseOf IsTested old new result

abbrev pub IsSayCause : {X : Type 0} → View → View → Result X ReportFault → Type 0
IsSayCause old new result = IsSayCauseOf IsTested old new result
