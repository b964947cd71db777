-- Why a run ended so: which counts of faults rose.
use Rattle.std.specs.Prelude.{◌≡◌, true, Option, Some, None}
use Rattle.rio_host.specs.{Host.{Rose, View}, Source.{Input}}
use Rattle.rio_close.specs.Causes.{NoDiskFault, NoSayFault}
use Rattle.rootio.specs.Reading.{reads_input, tested_by, writes_of}
use Rattle.rootio.specs.declared.status.Status.{Status, TheVariants.{Done, Usage, BadFile, DiskFault, InputFault, NoMemory, InputTooLong, ReadOnly, SayFault}}
use Rattle.rootio.specs.{declared.words.Form.{Form, TheVariants.{Reads, Writes}}, declared.words.Listing.TheVariants.{Ls, Dump, Scan, Export}}

-- no read of the input failed
abbrev pub NoInputFault : Input → Input → Type 0
NoInputFault before after = after.faults ≡ before.faults

-- no call failed
abbrev pub NoFault : View → View → Input → Input → Type 0
NoFault old new before after = NoDiskFault old new × NoSayFault old new × NoInputFault before after

-- No call on the text failed where a call on the file or memory did, unless the verb says a listing in pieces: then the lines that
-- are complete are said after that fault, which may fail too.
abbrev pub NoSayFaultAfter : Option Form → View → View → Type 0
NoSayFaultAfter None old new = NoSayFault old new
NoSayFaultAfter (Some (Reads Ls)) old new = NoSayFault old new
NoSayFaultAfter (Some (Reads (Dump item))) old new = Unit {0}
NoSayFaultAfter (Some (Reads (Scan tree class))) old new = Unit {0}
NoSayFaultAfter (Some (Reads (Export tree))) old new = Unit {0}
NoSayFaultAfter (Some (Writes work)) old new = NoSayFault old new

-- Why a run of this form ended so: the counts of faults rose where it says so, and only there; and no other answer comes than
-- those that its verb has.
abbrev pub IsCause : Option Form → View → View → Input → Input → Status → Type 0
IsCause form old new before after Done = NoFault old new before after
IsCause form old new before after Usage = (form ≡ None) × NoFault old new before after
IsCause form old new before after (BadFile place kind) = tested_by form kind × NoFault old new before after
IsCause form old new before after DiskFault = Rose old.disk_faults new.disk_faults × NoSayFaultAfter form old new × NoInputFault before after
IsCause form old new before after InputFault =
    (reads_input form ≡ true) × NoDiskFault old new × NoSayFault old new × Rose before.faults after.faults
IsCause form old new before after NoMemory = NoDiskFault old new × NoSayFaultAfter form old new × NoInputFault before after
IsCause form old new before after InputTooLong = (reads_input form ≡ true) × NoFault old new before after
IsCause form old new before after (ReadOnly place reason) = (writes_of form ≡ true) × NoFault old new before after
IsCause form old new before after SayFault = NoDiskFault old new × Rose old.say_faults new.say_faults × NoInputFault before after
