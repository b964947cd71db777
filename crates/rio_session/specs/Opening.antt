-- How a session begins: what it finds, what it keeps, and what a stop leaves meanwhile.
use Rattle.std.specs.Prelude.{◌≡◌, ◌⊎◌, ℕ, List, [], length, false, MatchBool, Some, None, Result, Ok, Err, if◌then◌else◌}
use Rattle.rio_head.specs.{Head.{IsHeaderKind, fault_at}, declared.fault.HeadFault.{HeadFault}}
use Rattle.rio_host.specs.{Host.{Leaves, View}, OnlyReads.{OnlyReads}}
use Rattle.rio_dir.specs.Unborn.{header_fault, is_unborn}
use Rattle.rio_tree.specs.{WrittenLaws.{AreReadableBranches, FitsTreeHeader}, declared.head.TreeHead.{TreeHead}}
use Rattle.rio_fill.specs.Heads.{CanBeFilled}
use Rattle.rio_chain.specs.{Chains.{HasChain}, Segments.{IsChain, Link}, Stops.{KeepsFront}}
use Rattle.rio_close.specs.EndWord.{SaysEnd}
use Rattle.rio_create.specs.{NewFile.{first_links, new_file}, declared.fault.CreateFault.{CreateFault, TheVariants.{NoMemory as NoRoomToMake, HostFault as NotMade}}}
use Rattle.rio_recover.specs.{Cleaning.{cleaned}, declared.fault.RecoverFault.{RecoverFault, TheVariants.{BadFile as Broken, ReadOnly as Against, NoMemory as NoRoomToRead, HostFault as NotRead}}}
use Rattle.rio_state.specs.{Closing.{name_in}, KeyedRecords.{keyed_records}, Left.{open_end}, Reasons.{IsFirstReason, ReasonAt, reason_at}}
use Rattle.rio_create.specs.Creation.{IsUnclosed}
use Rattle.rio_session.specs.{Causes.{DiskRose, NoCountRose}, Session.{SessionState}}
use Rattle.rio_session.specs.declared.fault.OpenFault.{OpenFault, TheVariants.{BadFile, ReadOnly, NoMemory, HostFault}}

-- ---- what it begins with

-- how long the file was: one that isn't made yet counts as empty
abbrev pub opening_length : List ℕ → ℕ
opening_length file = if is_unborn file then 0 else length file

-- the records of a made file, without its garbage
abbrev pub OpensMade : List ℕ → List Link → Type 0
OpensMade file links = (all : List Link) × IsChain all file × (links ≡ cleaned all)

-- The records with which a session of this name and time begins: that of a new file, or those of a made one to which something refers.
abbrev pub OpensWith : List ℕ → ℕ → List ℕ → List Link → Type 0
OpensWith name datime file links = MatchBool (is_unborn file) (links ≡ first_links name datime) (OpensMade file links)

-- the first 100 bytes of an open file: those of a new file, or those of before with the mark of an open file
abbrev pub HasOpenedFront : List ℕ → ℕ → List ℕ → List ℕ → Type 0
HasOpenedFront name datime file now =
    MatchBool (is_unborn file) (KeepsFront (new_file name datime) now) ((marked : List ℕ) × SaysEnd open_end file marked × KeepsFront marked now)

-- What a session keeps when it begins, where the host tells its bytes: the file has these records, in the segments that it keeps, and
-- the name is theirs.
pub record BeginsOn (name : List ℕ) (datime : ℕ) (file : List ℕ) (v : View) (s : SessionState) : Type 0 where
  pub links : List Link
  pub begins : OpensWith name datime file links
  pub now : List ℕ
  pub holds : v.holds ≡ Some now
  pub chain : HasChain links s.segments now
  pub front : HasOpenedFront name datime file now
  pub name_is : s.name ≡ name_in (keyed_records links)
  pub opened : s.opened ≡ opening_length file

-- and whatever it tells
pub record IsBegun (datime : ℕ) (s : SessionState) : Type 0 where
  pub datime_is : s.datime ≡ datime
  pub costs : s.costs ≡ 0
  pub fresh : s.failed ≡ false

-- ---- trees

-- a header such as a save writes it, so that the tree can be filled further and saved again
pub record IsOpenHead (head : TreeHead) : Type 0 where
  pub can : CanBeFilled head
  pub readable : AreReadableBranches head.entries [] head.branches
  pub fits : FitsTreeHeader head

-- ---- what a stop leaves

-- an image that no close has come to: it is that of before, it isn't made yet, or it is marked as open
abbrev pub IsFileOrUnclosed : List ℕ → List ℕ → Type 0
IsFileOrUnclosed file image = (image ≡ file) ⊎ IsUnclosed image

abbrev pub LeavesFileOrUnclosed : List ℕ → View → Type 0
LeavesFileOrUnclosed file v = (image said : List ℕ) → Leaves v image said → IsFileOrUnclosed file image

-- ---- files that aren't opened

-- What is answered of a file: it breaks no rule and nothing stands against writing to it; or the rule that it breaks; or the first reason.
abbrev pub TellsWhyNot : List ℕ → {X : Type 0} → Result X OpenFault → Type 0
TellsWhyNot file (Ok x) = (header_fault file ≡ None) × IsFirstReason file None
TellsWhyNot file (Err (BadFile place kind)) = header_fault file ≡ Some (fault_at place kind)
TellsWhyNot file (Err (ReadOnly place reason)) = (header_fault file ≡ None) × IsFirstReason file (Some (reason_at place reason))
TellsWhyNot file (Err NoMemory) = Unit {0}
TellsWhyNot file (Err HostFault) = Unit {0}

-- A file that breaks a rule of the header, or that has a reason against it, isn't written to, whatever is answered.
pub record SparesFile (file : List ℕ) (old new : View) : Type 0 where
  pub broken : (fault : HeadFault) → header_fault file ≡ Some fault → OnlyReads old new
  pub reason : (against : ReasonAt) → IsFirstReason file (Some against) → OnlyReads old new

-- why a file isn't opened: a count of faults rises where a call of the host failed, and only there
abbrev pub IsOpenCause : {X : Type 0} → View → View → Result X OpenFault → Type 0
IsOpenCause old new (Ok x) = NoCountRose old new
IsOpenCause old new (Err (BadFile place kind)) = IsHeaderKind kind × NoCountRose old new
IsOpenCause old new (Err (ReadOnly place reason)) = NoCountRose old new
IsOpenCause old new (Err NoMemory) = NoCountRose old new
IsOpenCause old new (Err HostFault) = DiskRose old new

-- a file that isn't opened, for another cause than a fault of the host
abbrev pub IsNotOpened : {X : Type 0} → Result X OpenFault → Type 0
IsNotOpened (Ok x) = ⊥
IsNotOpened (Err (BadFile place kind)) = Unit {0}
IsNotOpened (Err (ReadOnly place reason)) = Unit {0}
IsNotOpened (Err NoMemory) = Unit {0}
IsNotOpened (Err HostFault) = ⊥

-- ---- faults

-- why a file could not be made, or not be read, as a fault of its opening
abbrev pub fault_of_making : CreateFault → OpenFault
fault_of_making NoRoomToMake = NoMemory
fault_of_making NotMade = HostFault

abbrev pub fault_of_recovery : RecoverFault → OpenFault
fault_of_recovery (Broken place kind) = BadFile place kind
fault_of_recovery (Against place reason) = ReadOnly place reason
fault_of_recovery NoRoomToRead = NoMemory
fault_of_recovery NotRead = HostFault
