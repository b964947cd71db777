-- What a walk answers, of the file that its host tells, and why it fails.
use Rattle.std.specs.Prelude.{◌≡◌, ◌*◌, ◌≤◌, ℕ, List, length, Result, Ok, Err}
use Rattle.rio_host.specs.Host.{View, Rose}
pub use Rattle.rio_host.specs.Reading.{Told}
use Rattle.rio_host.specs.declared.reading.ReadFault.{ReadFault, TheVariants.{NoMemory as NoRoom, HostFault as DiskFault}}
use Rattle.rio_chain.specs.{declared.segment.Segment.{Segment}, declared.fault.WalkFault.{WalkFault, TheVariants.{NoChain, NoMemory, HostFault}}}
use Rattle.rio_chain.specs.Segments.{BreaksAt}

-- why bytes could not be read, as a fault of a walk
abbrev pub fault_of_read : ReadFault → WalkFault
fault_of_read NoRoom = NoMemory
fault_of_read DiskFault = HostFault

-- a chain that breaks does so there
abbrev pub TellsFirstBreak : View → WalkFault → Type 0
TellsFirstBreak v (NoChain place) = Told v (BreaksAt place)
TellsFirstBreak v NoMemory = Unit {0}
TellsFirstBreak v HostFault = Unit {0}

-- a count of faults rises where a call of the host failed, and only there
abbrev pub IsWalkCause : {X : Type 0} → View → View → Result X WalkFault → Type 0
IsWalkCause old new (Ok x) = new.disk_faults ≡ old.disk_faults
IsWalkCause old new (Err (NoChain place)) = new.disk_faults ≡ old.disk_faults
IsWalkCause old new (Err NoMemory) = new.disk_faults ≡ old.disk_faults
IsWalkCause old new (Err HostFault) = Rose old.disk_faults new.disk_faults

-- a call that finds no fault in what it reads
abbrev pub IsReadCause : {X : Type 0} → View → View → Result X WalkFault → Type 0
IsReadCause old new (Ok x) = new.disk_faults ≡ old.disk_faults
IsReadCause old new (Err (NoChain place)) = ⊥
IsReadCause old new (Err NoMemory) = new.disk_faults ≡ old.disk_faults
IsReadCause old new (Err HostFault) = Rose old.disk_faults new.disk_faults

-- at most a quarter of the file's length
abbrev pub AreFew : List ℕ → List Segment → Type 0
AreFew file segments = 4 * length segments ≤ length file
