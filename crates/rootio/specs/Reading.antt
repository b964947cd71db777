-- What the words ask for, what of a file it tests, and how a run ends that says a listing.
use Rattle.std.specs.Prelude.{◌≡◌, ℕ, List, Bool, true, false, Option, Some, None}
use Rattle.rio_head.specs.{declared.fault.FileFault.{FileFault}, declared.fault.HeadFault.{HeadFault}, Head.{IsHeaderKind, fault_at}}
use Rattle.rio_host.specs.Host.{View}
use Rattle.rio_dir.specs.Listing.{listed_file}
use Rattle.rio_report.specs.{Dump.{dumped_file}, FirstFault.{HeaderAlone, Tests, ToClassList, ToKeyList, first_fault}}
use Rattle.rio_report.specs.{RowForms.{row_form}, Scan.{scanned_file}}
use Rattle.rio_close.specs.Causes.{AnyKind, IsTested, NoKind}
use Rattle.rio_report.specs.Lists.{AtOnce, InPieces, ListingAnswer, Lists}
use Rattle.rootio.specs.{Status.{status_of}, Words.{are_of_import}}
use Rattle.rootio.specs.declared.status.Status.{Status, TheVariants.{Done, Usage, BadFile, DiskFault, InputFault, NoMemory, InputTooLong, ReadOnly, SayFault}}
use Rattle.rootio.specs.{declared.words.Form.{Form, TheVariants.{Reads, Writes}}, declared.words.Listing.{Listing, TheVariants.{Ls, Dump, Scan, Export}}}
use Rattle.rootio.specs.declared.words.Work.{Work, TheVariants.{Run, Recover, Import, Generate}}

-- ---- what the words ask for

-- a listing, where the verb is one that reads
abbrev pub reading_of : Option Form → Option Listing
reading_of None = None
reading_of (Some (Reads list)) = Some list
reading_of (Some (Writes work)) = None

-- whether the verb is one that writes
abbrev pub writes_of : Option Form → Bool
writes_of None = false
writes_of (Some (Reads list)) = false
writes_of (Some (Writes work)) = true

-- what is done to a file, where the verb is one that writes
abbrev pub work_of_form : Option Form → Option Work
work_of_form None = None
work_of_form (Some (Reads list)) = None
work_of_form (Some (Writes work)) = Some work

-- the verbs that write and read the input: a script, or the rows of an import
abbrev pub takes_input : Work → Bool
takes_input (Run target) = true
takes_input (Recover target) = false
takes_input (Import target words) = true
takes_input (Generate target entries) = false

-- whether the verb reads the input
abbrev pub reads_input : Option Form → Bool
reads_input None = false
reads_input (Some (Reads list)) = false
reads_input (Some (Writes work)) = takes_input work

-- words without a form are told; those of an import take memory, which may run out while they are read
abbrev pub TellsUsage : List (List ℕ) → Status → Type 0
TellsUsage words Usage = Unit {0}
TellsUsage words NoMemory = are_of_import words ≡ true
TellsUsage words other = ⊥

-- ---- what it tests

abbrev pub rules_of : Form → Tests
rules_of (Reads Ls) = ToKeyList
rules_of (Reads (Dump item)) = ToClassList
rules_of (Reads (Scan tree class)) = ToClassList
rules_of (Reads (Export tree)) = ToClassList
rules_of (Writes work) = HeaderAlone

abbrev pub kinds_of : Tests → FileFault → Type 0
kinds_of HeaderAlone = IsHeaderKind
kinds_of ToKeyList = IsTested
kinds_of ToClassList = AnyKind

abbrev pub tested_by : Option Form → FileFault → Type 0
tested_by None = NoKind
tested_by (Some form) = kinds_of (rules_of form)

-- a fault that is told is the first one of the file
abbrev pub TellsFirstFault : Tests → View → Status → Type 0
TellsFirstFault tests old status =
    (place : ℕ) (kind : FileFault) → status ≡ BadFile place kind
    → (file : List ℕ) → old.holds ≡ Some file → first_fault tests file ≡ Some (fault_at place kind)

-- this fault is told, unless memory ran out or a call on the file failed, or the input that comes before the file ended the run
abbrev pub TellsUnlessCut : HeadFault → Status → Type 0
TellsUnlessCut fault Done = ⊥
TellsUnlessCut fault Usage = ⊥
TellsUnlessCut fault (BadFile place kind) = fault ≡ fault_at place kind
TellsUnlessCut fault DiskFault = Unit {0}
TellsUnlessCut fault InputFault = Unit {0}
TellsUnlessCut fault NoMemory = Unit {0}
TellsUnlessCut fault InputTooLong = Unit {0}
TellsUnlessCut fault (ReadOnly place reason) = ⊥
TellsUnlessCut fault SayFault = ⊥

-- a file that breaks a rule is told with its first fault
abbrev pub RefusesBroken : Tests → View → Status → Type 0
RefusesBroken tests old status =
    (fault : HeadFault) (file : List ℕ) → old.holds ≡ Some file
    → first_fault tests file ≡ Some fault → TellsUnlessCut fault status

-- ---- how a run ends that says a listing

abbrev pub ListsFor : Listing → View → View → ListingAnswer → Type 0
ListsFor Ls old new told = Lists AtOnce IsTested listed_file old new told
ListsFor (Dump item) old new told = Lists InPieces AnyKind (dumped_file item) old new told
ListsFor (Scan tree class) old new told = Lists InPieces AnyKind (scanned_file (row_form class false) tree) old new told
ListsFor (Export tree) old new told = Lists InPieces AnyKind (scanned_file (row_form None true) tree) old new told

-- with the status of a call that said the listing
abbrev pub EndsListing : Listing → View → View → Status → Type 0
EndsListing list old new status =
    (told : ListingAnswer) × (status ≡ status_of told) × ListsFor list old new told
