-- Why a call of a session failed, and what it leaves then.
use Rattle.std.specs.Prelude.{◌≡◌, Bool, true, false, Result, Ok, Err}
use Rattle.rio_host.specs.Host.{Rose, Unwritten, View}
use Rattle.rio_machine.specs.{declared.command.Command.{Command, TheVariants.{Get, Scan}}, declared.command.Outcome.{Outcome, TheVariants.{Accepted, Refused}}}
use Rattle.rio_session.specs.declared.fault.SessionFault.{SessionFault, TheVariants.{HostFault, SayFault, NoMemory}}

-- ---- counts

-- no call on the file or on the text failed
abbrev pub NoCountRose : View → View → Type 0
NoCountRose old new = (new.disk_faults ≡ old.disk_faults) × (new.say_faults ≡ old.say_faults)

abbrev pub DiskRose : View → View → Type 0
DiskRose old new = Rose old.disk_faults new.disk_faults × (new.say_faults ≡ old.say_faults)

abbrev pub SayRose : View → View → Type 0
SayRose old new = (new.disk_faults ≡ old.disk_faults) × Rose old.say_faults new.say_faults

-- a count of faults rises where a call of the host failed, and only there
abbrev pub IsSessionCause : {X : Type 0} → View → View → Result X SessionFault → Type 0
IsSessionCause old new (Ok x) = NoCountRose old new
IsSessionCause old new (Err HostFault) = DiskRose old new
IsSessionCause old new (Err SayFault) = SayRose old new
IsSessionCause old new (Err NoMemory) = NoCountRose old new

-- a close says nothing
abbrev pub IsCloseCause : {X : Type 0} → View → View → Result X SessionFault → Type 0
IsCloseCause old new (Ok x) = NoCountRose old new
IsCloseCause old new (Err HostFault) = DiskRose old new
IsCloseCause old new (Err SayFault) = ⊥
IsCloseCause old new (Err NoMemory) = NoCountRose old new

-- ---- behind a fault

-- a session has failed behind a fault of the host, and not behind want of memory
abbrev pub fails_by : {X : Type 0} → Result X SessionFault → Bool
fails_by (Ok x) = false
fails_by (Err HostFault) = true
fails_by (Err SayFault) = true
fails_by (Err NoMemory) = false

-- the whole text is said, or a front of it, where it could not be said
abbrev pub IsSaid : {X : Type 0} → Result X SessionFault → Type 0
IsSaid (Ok x) = Unit {0}
IsSaid (Err HostFault) = ⊥
IsSaid (Err SayFault) = Unit {0}
IsSaid (Err NoMemory) = ⊥

-- the call failed before it came to that
abbrev pub SaysNothing : {X : Type 0} → Result X SessionFault → Type 0
SaysNothing (Ok x) = ⊥
SaysNothing (Err HostFault) = Unit {0}
SaysNothing (Err SayFault) = ⊥
SaysNothing (Err NoMemory) = Unit {0}

-- a refused command leaves the file as it was, and a stop leaves only what it might have left before
abbrev pub StaysIfRefused : View → View → Outcome → Type 0
StaysIfRefused old new Accepted = Unit {0}
StaysIfRefused old new (Refused refusal) = (new.holds ≡ old.holds) × Unwritten old new

-- ---- commands

-- commands that don't read the file again
abbrev pub NeverReads : Command → Type 0
NeverReads (Get name cycle version) = ⊥
NeverReads (Scan name class) = ⊥
NeverReads other = Unit {0}
