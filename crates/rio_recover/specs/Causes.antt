-- Why a call of this crate fails, and what it tells of a file.
use Rattle.std.specs.Prelude.{◌≡◌, List, [], Some, Result, Ok, Err, slice_get}
use Rattle.rio_head.specs.{Head.{IsHeaderKind}, declared.reason.Reason.TheVariants.{NoChain}}
use Rattle.rio_host.specs.{Host.{View, Rose}, declared.reading.ReadFault.{ReadFault, TheVariants.{NoMemory as NoRoom, HostFault as DiskFault}}}
use Rattle.rio_chain.specs.declared.fault.WalkFault.{WalkFault, TheVariants.{NoChain as Broken, NoMemory as WalkMemory, HostFault as WalkDisk}}
use Rattle.rio_state.specs.Reasons.{ReasonAt, reason_at}
use Rattle.rio_recover.specs.declared.fault.RecoverFault.{RecoverFault, TheVariants.{BadFile, ReadOnly, NoMemory, HostFault}}

-- a chain that breaks is a reason not to write to the file
abbrev pub fault_of_walk : WalkFault → RecoverFault
fault_of_walk (Broken place) = ReadOnly place NoChain
fault_of_walk WalkMemory = NoMemory
fault_of_walk WalkDisk = HostFault

-- why bytes could not be read, as a fault of a recovery
abbrev pub fault_of_read : ReadFault → RecoverFault
fault_of_read NoRoom = NoMemory
fault_of_read DiskFault = HostFault

-- ---- causes

-- a count of faults rises where a call of the host failed, and only there
abbrev pub IsRecoverCause : {X : Type 0} → View → View → Result X RecoverFault → Type 0
IsRecoverCause old new (Ok x) = new.disk_faults ≡ old.disk_faults
IsRecoverCause old new (Err (BadFile place kind)) = IsHeaderKind kind × (new.disk_faults ≡ old.disk_faults)
IsRecoverCause old new (Err (ReadOnly place reason)) = new.disk_faults ≡ old.disk_faults
IsRecoverCause old new (Err NoMemory) = new.disk_faults ≡ old.disk_faults
IsRecoverCause old new (Err HostFault) = Rose old.disk_faults new.disk_faults

-- a call that calls no host returns no fault of it, nor one of the header
abbrev pub CallsNoHost : {X : Type 0} → Result X RecoverFault → Type 0
CallsNoHost (Ok x) = Unit {0}
CallsNoHost (Err (BadFile place kind)) = ⊥
CallsNoHost (Err (ReadOnly place reason)) = Unit {0}
CallsNoHost (Err NoMemory) = Unit {0}
CallsNoHost (Err HostFault) = ⊥

-- ---- answers

-- A call that tests for these reasons: it tells the first of them, or there are none and it gives what is asked for. Want of
-- memory and a fault of the host are told whatever the reasons are.
abbrev pub Judges : {X : Type 0} → Result X RecoverFault → List ReasonAt → (X → Type 0) → Type 0
Judges (Ok x) reasons Asked = (reasons ≡ []) × Asked x
Judges (Err (BadFile place kind)) reasons Asked = ⊥
Judges (Err (ReadOnly place reason)) reasons Asked = slice_get reasons 0 ≡ Some (reason_at place reason)
Judges (Err NoMemory) reasons Asked = Unit {0}
Judges (Err HostFault) reasons Asked = Unit {0}

-- A call that tests for no reason: it gives what is asked for.
abbrev pub Obtains : {X : Type 0} → Result X RecoverFault → (X → Type 0) → Type 0
Obtains (Ok x) Asked = Asked x
Obtains (Err (BadFile place kind)) Asked = ⊥
Obtains (Err (ReadOnly place reason)) Asked = ⊥
Obtains (Err NoMemory) Asked = Unit {0}
Obtains (Err HostFault) Asked = Unit {0}
