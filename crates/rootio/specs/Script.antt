-- A script on a file: how a run of it ends.
use Rattle.std.specs.Prelude.{◌≡◌, ◌⊎◌, ℕ, List, [], ◌++◌, Option, None, Some, Result, Ok, Err, OnOk}
use Rattle.rio_head.specs.Head.{IsHeaderKind}
use Rattle.rio_host.specs.{Host.{Any, Becomes, Elapses, IsQuiet, Leaves, Rose, View}, OnlyReads.{Grown}, Source.{Input}}
use Rattle.rio_report.specs.FirstFault.{HeaderAlone}
use Rattle.rio_close.specs.Causes.{NoDiskFault, NoSayFault}
use Rattle.rio_machine.specs.{State.{State}, declared.command.Command.{Command}}
use Rattle.rio_step.specs.Runs.{state_after}
use Rattle.rio_chain.specs.{Chains.{HasChain}, Segments.{Link}, Stops.{KeepsFront}}
use Rattle.rio_effect.specs.FileRuns.{FileRun, file_run}
use Rattle.rio_session.specs.{Behind.{SaysPart}, Causes.{IsSessionCause}, Closes.{IsWellClosed}, Opening.{opening_length}, Session.{SessionState, StandsFor, file_records}}
use Rattle.rio_session.specs.declared.replies.Replies.{Replies, TheVariants.{Printed}}
use Rattle.rio_session.specs.declared.fault.OpenFault.{OpenFault, TheVariants.{BadFile as FileBad, ReadOnly as FileReadOnly, NoMemory as NotRoomy, HostFault as NotOpened}}
use Rattle.rio_session.specs.declared.fault.SessionFault.{SessionFault, TheVariants.{HostFault, SayFault as NotSaid, NoMemory as OutOfMemory}}
use Rattle.rootio.specs.{Causes.{IsCause}, Input.{RefusesTooLong, TellsTooLong}}
use Rattle.rootio.specs.Headline.{AllFindRoom, IsRunDone, IsStopOf, ReadsAsEnd, SaidFindRoom, ScriptRun, all_replies, all_texts}
use Rattle.rootio.specs.Reading.{RefusesBroken, TellsFirstFault}
use Rattle.rootio.specs.Writing.{Beginning, BeginsRun, EndsInClose, EndsUnclosed, EndsWriting, LeavesOpen, LeavesRun, RefusesReadOnly, SaysWhole, SparesRefused, StandsBetween, StandsClosed, StandsUnsaid, TellsFirstReason, closed_records, run_of_work}
use Rattle.rootio.specs.declared.status.Status.{Status, TheVariants.{Done, Usage, BadFile, DiskFault, InputFault, NoMemory, InputTooLong, ReadOnly, SayFault}}
use Rattle.rootio.specs.{declared.words.Form.TheVariants.{Writes}, declared.words.Work.{Work}}

-- the commands that a source has left; none where memory ran out
abbrev pub commands_in : Option (List Command) → List Command
commands_in None = []
commands_in (Some commands) = commands

-- what these commands do to the file of a session that has these records
abbrev pub session_file_run : SessionState → List Link → State → List Command → FileRun
session_file_run s links m commands = file_run s.datime (file_records s links) m commands

-- the records behind them and the saves of the close
abbrev pub session_closed_records : SessionState → List Link → State → List Command → List Link
session_closed_records s links m commands = closed_records s.datime (file_records s links) m commands

-- the run of these commands from a session on, whose file has these records, with replies that are said or omitted
abbrev pub session_run : Replies → SessionState → List Link → State → List Command → ScriptRun
session_run replies s links m commands =
    record { start = m; commands = commands; marks = (session_file_run s links m commands).marks; replies = replies; listing = [] }

-- the run of these commands from where a session stands
abbrev pub run_by : {v : View} {s : SessionState} {m : State} {text : List ℕ} → Replies → StandsFor v s m text → List Command → ScriptRun
run_by {s = s} {m = m} replies stands commands = session_run replies s stands.state.links m commands

-- where all replies are said
abbrev pub run_from : {v : View} {s : SessionState} {m : State} {text : List ℕ} → StandsFor v s m text → List Command → ScriptRun
run_from stands commands = run_by Printed stands commands

-- The file has the records that this run on files leaves, each at its place and with its bytes; the session keeps which of them are baskets
-- of pending rows. The first 100 bytes are as before the run.
pub record HasRecords (run : FileRun) (file : List ℕ) (s : SessionState) (new : View) : Type 0 where
  pub now : List ℕ
  pub holds : new.holds ≡ Some now
  pub chain : HasChain run.records.links s.segments now
  pub front : KeepsFront file now
  pub records_are : run.records ≡ file_records s run.records.links

-- All commands were done on this file with these records, and all replies said; where the costs leave room, none was want of room.
pub record HasDone (r : ScriptRun) (links : List Link) (file : List ℕ) (first s : SessionState) (before : List ℕ) (new : View) : Type 0 where
  pub records : HasRecords (session_file_run first links r.start r.commands) file s new
  pub stands : StandsFor new s (state_after r.start r.commands r.marks) (before ++ all_replies r)
  pub name : s.name ≡ first.name
  pub datime : s.datime ≡ first.datime
  pub room : first.costs ≡ 0 → AllFindRoom first.opened r

-- All commands were done on this file with these records, all was said, and the file was closed, without garbage, with the records of
-- the run and of the saves of its close.
pub record HasClosed (r : ScriptRun) (links : List Link) (file : List ℕ) (first : SessionState) (before : List ℕ) (new : View) : Type 0 where
  pub quiet : IsQuiet new
  pub said : new.said ≡ Some (before ++ all_texts r)
  pub left : (image said : List ℕ) → Leaves new image said → ReadsAsEnd r image
  pub written : (image said : List ℕ) → Leaves new image said
      → IsWellClosed first.name first.datime file (session_closed_records first links r.start r.commands) image
  pub room : first.costs ≡ 0 → AllFindRoom first.opened r

-- How the commands of a script ended early: where a disk fails, no reply is torn, and each crash image is marked as open.
abbrev pub EndsCommands : ScriptRun → List ℕ → View → Result (Unit {0}) SessionFault → Type 0
EndsCommands r before new (Ok x) = Unit {0}
EndsCommands r before new (Err HostFault) = LeavesOpen new × SaysWhole r before new
EndsCommands r before new (Err NotSaid) = StandsUnsaid r before new
EndsCommands r before new (Err OutOfMemory) = StandsBetween r before new

-- A session that ended without a close, as it does where it finds no memory, can't say a text or its disk fails, leaves a file
-- marked as open, and where it can't say a text what is told here; unless it is the close whose disk fails, behind all commands.
abbrev pub StaysOpenBy : (ScriptRun → List ℕ → View → Type 0) → ScriptRun → List ℕ → View → Result (Unit {0}) SessionFault → Type 0
StaysOpenBy unsaid r before new (Ok x) = Unit {0}
StaysOpenBy unsaid r before new (Err HostFault) = (LeavesOpen new × SaysWhole r before new) ⊎ EndsInClose r before new
StaysOpenBy unsaid r before new (Err NotSaid) = unsaid r before new
StaysOpenBy unsaid r before new (Err OutOfMemory) = StandsBetween r before new

-- the run of no command from a session on, with these lines said after the close
abbrev pub listing_run : SessionState → List ℕ → List Link → State → ScriptRun
listing_run s lines links m = record { start = m; commands = []; marks = (session_file_run s links m []).marks; replies = Printed; listing = lines }

-- An open file is closed, and then these lines are said.
pub record ClosesAndSays (old new : View) (s : SessionState) (lines : List ℕ) (result : Result (Unit {0}) SessionFault) : Type 0 where
  pub stops : (file text : List ℕ) (m : State) (stands : StandsFor old s m text)
      → Elapses old new (IsStopOf (listing_run s lines stands.state.links m) file text)
  pub done : OnOk result ((m : State) (text : List ℕ) (stands : StandsFor old s m text)
      → HasClosed (listing_run s lines stands.state.links m) stands.state.links stands.file s text new)
  pub unclosed : (m : State) (text : List ℕ) (stands : StandsFor old s m text)
      → StaysOpenBy StandsClosed (listing_run s lines stands.state.links m) text new result
  pub told : Becomes Any old.holds new.holds
  pub said : Becomes Grown old.said new.said
  pub cause : IsSessionCause old new result

-- how a run ended that opened the file
abbrev pub status_of_session : Result (Unit {0}) SessionFault → Status
status_of_session (Ok x) = Done
status_of_session (Err HostFault) = DiskFault
status_of_session (Err NotSaid) = SayFault
status_of_session (Err OutOfMemory) = NoMemory

-- and one that didn't
abbrev pub status_of_open : OpenFault → Status
status_of_open (FileBad place kind) = BadFile place kind
status_of_open (FileReadOnly place reason) = ReadOnly place reason
status_of_open NotRoomy = NoMemory
status_of_open NotOpened = DiskFault

-- why a run ended whose input was read, or that reads none
abbrev pub IsFileCause : View → View → Status → Type 0
IsFileCause old new Done = NoDiskFault old new × NoSayFault old new
IsFileCause old new Usage = ⊥
IsFileCause old new (BadFile place kind) = IsHeaderKind kind × NoDiskFault old new × NoSayFault old new
IsFileCause old new DiskFault = Rose old.disk_faults new.disk_faults × NoSayFault old new
IsFileCause old new InputFault = ⊥
IsFileCause old new NoMemory = NoDiskFault old new × NoSayFault old new
IsFileCause old new InputTooLong = ⊥
IsFileCause old new (ReadOnly place reason) = NoDiskFault old new × NoSayFault old new
IsFileCause old new SayFault = NoDiskFault old new × Rose old.say_faults new.say_faults

-- How a run of a verb ends with this input: at any stop it leaves a prefix, and at its end all; a refused file is told and spared.
pub record RunsWork (work : Work) (input : List ℕ) (old new : View) (status : Status) : Type 0 where
  pub stops : (b : Beginning) → BeginsRun work b old → b.input ≡ input → Elapses old new (IsStopOf (run_of_work work b) b.file b.text)
  pub said : (b : Beginning) → BeginsRun work b old → b.input ≡ input → SaysPart new b.text (all_texts (run_of_work work b))
  pub room : (b : Beginning) → BeginsRun work b old → b.input ≡ input
      → SaidFindRoom (opening_length b.file) (run_of_work work b) b.text new
  pub done : (b : Beginning) → BeginsRun work b old → b.input ≡ input → status ≡ Done → IsRunDone (run_of_work work b) b.file b.text new
  pub written : (b : Beginning) → BeginsRun work b old → b.input ≡ input → status ≡ Done → LeavesRun work b new
  pub unclosed : (b : Beginning) → BeginsRun work b old → b.input ≡ input
      → EndsUnclosed work (run_of_work work b) b.file b.text old new status
  pub told : Becomes Any old.holds new.holds
  pub faults : TellsFirstFault HeaderAlone old status
  pub broken : RefusesBroken HeaderAlone old status
  pub reasons : TellsFirstReason (Writes work) old status
  pub read_only : RefusesReadOnly (Writes work) old status
  pub spares : SparesRefused work old new status
  pub cause : IsFileCause old new status

-- ---- with the input

-- How a verb ends that writes.
pub record WorksOn (work : Work) (old new : View) (before after : Input) (status : Status) : Type 0 where
  pub writes : EndsWriting work old new before after status
  pub too_long : TellsTooLong before status
  pub limited : RefusesTooLong (Some (Writes work)) before status
  pub faults : TellsFirstFault HeaderAlone old status
  pub broken : RefusesBroken HeaderAlone old status
  pub reasons : TellsFirstReason (Writes work) old status
  pub read_only : RefusesReadOnly (Writes work) old status
  pub cause : IsCause (Some (Writes work)) old new before after status
