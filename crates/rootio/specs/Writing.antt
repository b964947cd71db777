-- What the verbs that write do: their commands, and what they leave of the file.
use Rattle.std.specs.Prelude.{◌≡◌, ◌⊎◌, ◌≤◌, ℕ, ◌+◌, List, [], ◌++◌, length, slice_get, true, Option, Some, None, MatchBool}
use Rattle.rio_head.specs.declared.reason.Reason.{Reason, TheVariants.{NotNew}}
use Rattle.rio_host.specs.{Host.{Any, Becomes, Elapses, IsQuiet, Leaves, View}, OnlyReads.{OnlyReads}, Source.{Input}}
use Rattle.rio_key.specs.declared.head.KeyHead.{KeyHead}
use Rattle.rio_dir.specs.{Listing.{key_lines}, Unborn.{header_fault, is_unborn}}
use Rattle.rio_machine.specs.{State.{State}, declared.command.Command.{Command}}
use Rattle.rio_state.specs.{Closing.{name_in}, DirectoryKeys.{AreKeysOf}, KeyedRecords.{keyed_records}, Left.{IsMarkedOpen, open_end}, Reads.{ReadsAsState}, Reasons.{IsFirstReason, ReasonAt, reason_at}}
use Rattle.rio_step.specs.{Runs.{saved_of}, Script.{script_of}}
use Rattle.rio_chain.specs.Segments.{Link}
use Rattle.rio_close.specs.EndWord.{SaysEnd}
use Rattle.rio_csv.specs.Import.{import_script}
use Rattle.rio_effect.specs.FileRuns.{FileRun}
use Rattle.rio_gen.specs.Generated.{gen_script}
use Rattle.rio_create.specs.NewFile.{new_file}
use Rattle.rio_session.specs.{Behind.{SaysPart}, Closes.{IsWellClosed}, Opening.{LeavesFileOrUnclosed, OpensWith, SparesFile, opening_length}}
use Rattle.rio_session.specs.{Replying.{reply_text}, declared.replies.Replies.{Replies, TheVariants.{Printed, Omitted}}}
use Rattle.rootio.specs.{Headline.{IsRunDone, IsStopOf, ReadsAsEnd, SaidFindRoom, ScriptRun, all_replies, all_texts, replies, reply_at, states}, Input.{IsPastInput}}
use Rattle.rootio.specs.{Generated.{generated_line}, Reading.{takes_input}, Target.{TargetFile}}
pub use Rattle.rootio.specs.Records.{closed_records, file_run_from, without_pending}
use Rattle.rootio.specs.declared.status.Status.{Status, TheVariants.{Done, Usage, BadFile, DiskFault, InputFault, NoMemory, InputTooLong, ReadOnly, SayFault}}
use Rattle.rootio.specs.{declared.words.Form.{Form, TheVariants.{Reads, Writes}}, declared.words.Work.{Work, TheVariants.{Run, Recover, Import, Generate}}}

-- ---- what stands against writing

-- a file that is made stands against a generated one
abbrev pub not_new : ReasonAt
not_new = reason_at 0 NotNew

-- the first reason against what a verb does to a file, if there is one; that the file is made is the only one against a generated one
abbrev pub IsFirstReasonFor : Work → List ℕ → Option ReasonAt → Type 0
IsFirstReasonFor (Run target) file against = IsFirstReason file against
IsFirstReasonFor (Recover target) file against = IsFirstReason file against
IsFirstReasonFor (Import target words) file against = IsFirstReason file against
IsFirstReasonFor (Generate target entries) file against = MatchBool (is_unborn file) (against ≡ None) (against ≡ Some not_new)

-- This is why the verb doesn't write to a file, whose header breaks no rule: the first reason against it, and its place.
abbrev pub IsReasonFor : Form → List ℕ → ReasonAt → Type 0
IsReasonFor (Reads list) file against = ⊥
IsReasonFor (Writes work) file against = (header_fault file ≡ None) × IsFirstReasonFor work file (Some against)

-- a reason that is told is the first one
abbrev pub TellsFirstReason : Form → View → Status → Type 0
TellsFirstReason form old status =
    (place : ℕ) (reason : Reason) → status ≡ ReadOnly place reason
    → (file : List ℕ) → old.holds ≡ Some file → IsReasonFor form file (reason_at place reason)

-- this reason is told, unless the run ended before the file was judged
abbrev pub TellsReasonUnlessCut : ReasonAt → Status → Type 0
TellsReasonUnlessCut against Done = ⊥
TellsReasonUnlessCut against Usage = ⊥
TellsReasonUnlessCut against (BadFile place kind) = ⊥
TellsReasonUnlessCut against DiskFault = Unit {0}
TellsReasonUnlessCut against InputFault = Unit {0}
TellsReasonUnlessCut against NoMemory = Unit {0}
TellsReasonUnlessCut against InputTooLong = Unit {0}
TellsReasonUnlessCut against (ReadOnly place reason) = against ≡ reason_at place reason
TellsReasonUnlessCut against SayFault = ⊥

-- a file with a reason against writing is told with its first one
abbrev pub RefusesReadOnly : Form → View → Status → Type 0
RefusesReadOnly form old status =
    (against : ReasonAt) (file : List ℕ) → old.holds ≡ Some file → IsReasonFor form file against → TellsReasonUnlessCut against status

-- ---- refused files

-- answers that refuse the file
abbrev pub RefusesFile : Status → Type 0
RefusesFile Done = ⊥
RefusesFile Usage = ⊥
RefusesFile (BadFile place kind) = Unit {0}
RefusesFile DiskFault = ⊥
RefusesFile InputFault = ⊥
RefusesFile NoMemory = ⊥
RefusesFile InputTooLong = ⊥
RefusesFile (ReadOnly place reason) = Unit {0}
RefusesFile SayFault = ⊥

-- A file that is refused isn't written to; nor is one that breaks a rule or has a reason against it, whatever is answered.
pub record SparesRefused (work : Work) (old new : View) (status : Status) : Type 0 where
  pub answer : RefusesFile status → OnlyReads old new
  pub file : (file : List ℕ) → old.holds ≡ Some file → SparesFile file old new
  pub reason : (file : List ℕ) (against : ReasonAt) → old.holds ≡ Some file → IsFirstReasonFor work file (Some against) → OnlyReads old new

-- ---- runs that end early

-- each file that a stop leaves now is marked as open
abbrev pub LeavesOpen : View → Type 0
LeavesOpen v = (image said : List ℕ) → Leaves v image said → IsMarkedOpen image

-- The replies of the first commands were said, whole, and nothing else.
pub record SaysWhole (r : ScriptRun) (before : List ℕ) (new : View) : Type 0 where
  pub j : ℕ
  pub commands : j ≤ length r.commands
  pub said : new.said ≡ Some (before ++ replies r j)

-- The run ended between two commands, whose replies were said up to there: each file that a stop leaves now is marked as open and
-- reads as the state between them.
pub record StandsBetween (r : ScriptRun) (before : List ℕ) (new : View) : Type 0 where
  pub says : SaysWhole r before new
  pub state : State
  pub state_is : slice_get (states r) says.j ≡ Some state
  pub left : (image said : List ℕ) → Leaves new image said → ReadsAsState image (saved_of state) × IsMarkedOpen image

-- A reply could not be said, but for a front of it, behind those of all commands before. What its command does is done: each file
-- that a stop leaves now is marked as open and reads as the state behind it.
pub record StandsUnsaid (r : ScriptRun) (before : List ℕ) (new : View) : Type 0 where
  pub j : ℕ
  pub command : Command
  pub command_is : slice_get r.commands j ≡ Some command
  pub text : SaysPart new (before ++ replies r j) (reply_text r.replies (reply_at r j command))
  pub state : State
  pub state_is : slice_get (states r) (j + 1) ≡ Some state
  pub left : (image said : List ℕ) → Leaves new image said → ReadsAsState image (saved_of state) × IsMarkedOpen image

-- All replies were printed, if they are, and the file was closed. Of the listing that follows only a prefix was printed. Each crash image reads as the
-- last state, by the walk and by the key list.
pub record StandsClosed (r : ScriptRun) (before : List ℕ) (new : View) : Type 0 where
  pub text : SaysPart new (before ++ all_replies r) r.listing
  pub left : (image said : List ℕ) → Leaves new image said → ReadsAsEnd r image

-- the image reads as a state of the close: behind all commands and some of the closing saves, without pending rows
pub record IsOfClose (r : ScriptRun) (image : List ℕ) : Type 0 where
  pub k : ℕ
  pub state : State
  pub state_is : slice_get (states r) (length r.commands + k) ≡ Some state
  pub reads : ReadsAsState image (saved_of state)

-- The close failed. All replies were printed, if they are, and each crash image reads as a state of the close.
pub record EndsInClose (r : ScriptRun) (before : List ℕ) (new : View) : Type 0 where
  pub said : new.said ≡ Some (before ++ all_replies r)
  pub left : (image said : List ℕ) → Leaves new image said → IsOfClose r image

-- what a run leaves whose print fails
abbrev pub EndsUnsaid : Work → ScriptRun → List ℕ → View → Type 0
EndsUnsaid (Run target) r before new = StandsUnsaid r before new
EndsUnsaid (Recover target) r before new = StandsClosed r before new
EndsUnsaid (Import target words) r before new = StandsUnsaid r before new
EndsUnsaid (Generate target entries) r before new = StandsClosed r before new

-- What a run leaves that ends behind the close, before it prints: a generated file is read again there.
abbrev pub EndsRead : Work → ScriptRun → List ℕ → View → Type 0
EndsRead (Run target) r before new = ⊥
EndsRead (Recover target) r before new = ⊥
EndsRead (Import target words) r before new = ⊥
EndsRead (Generate target entries) r before new = StandsClosed r before new

-- How a run ends early. If a reply can't be printed, what its command did stands, and the file isn't closed; if the listing can't be
-- printed, the file is closed. If memory runs out, nothing was written or printed, or the run ended between two commands: each reply before was
-- printed, and none is lost. If the disk fails, no reply is torn, and a crash image is the file of before, isn't made yet or is marked as
-- open; or it is the close that failed, behind all commands. With either fault a generated file may also be closed and not yet read again.
abbrev pub EndsUnclosed : Work → ScriptRun → List ℕ → List ℕ → View → View → Status → Type 0
EndsUnclosed work r file before old new Done = Unit {0}
EndsUnclosed work r file before old new Usage = Unit {0}
EndsUnclosed work r file before old new (BadFile place kind) = Unit {0}
EndsUnclosed work r file before old new DiskFault =
    ((OnlyReads old new ⊎ LeavesFileOrUnclosed file new) × SaysWhole r before new) ⊎ (EndsInClose r before new ⊎ EndsRead work r before new)
EndsUnclosed work r file before old new InputFault = Unit {0}
EndsUnclosed work r file before old new NoMemory =
    (OnlyReads old new × SaysWhole r before new) ⊎ (StandsBetween r before new ⊎ EndsRead work r before new)
EndsUnclosed work r file before old new InputTooLong = Unit {0}
EndsUnclosed work r file before old new (ReadOnly place reason) = Unit {0}
EndsUnclosed work r file before old new SayFault = EndsUnsaid work r before new

-- ---- the run

-- the file that the verb writes
abbrev pub target_of : Work → TargetFile
target_of (Run target) = target
target_of (Recover target) = target
target_of (Import target words) = target
target_of (Generate target entries) = target

-- the commands that it does, by its input
abbrev pub commands_of : Work → List ℕ → List Command
commands_of (Run target) input = script_of input
commands_of (Recover target) input = []
commands_of (Import target words) input = import_script words.tree words.branches words.every input
commands_of (Generate target entries) input = gen_script entries

-- whether their replies are said
abbrev pub replies_of : Work → Replies
replies_of (Run target) = Printed
replies_of (Recover target) = Printed
replies_of (Import target words) = Printed
replies_of (Generate target entries) = Omitted

-- the lines that ls prints for the keys of the objects and trees among these records
abbrev pub ListsKeys : List Link → List ℕ → Type 0
ListsKeys links listing = (heads : List KeyHead) × AreKeysOf (keyed_records links) heads × (listing ≡ key_lines heads)

-- what is printed after the close of a file that begins with these records
abbrev pub IsListingOf : Work → List Link → List ℕ → Type 0
IsListingOf (Run target) links listing = listing ≡ []
IsListingOf (Recover target) links listing = ListsKeys links listing
IsListingOf (Import target words) links listing = listing ≡ []
IsListingOf (Generate target entries) links listing = listing ≡ generated_line target entries links

-- this is its input, where it reads one
abbrev pub IsInputOf : Work → Input → List ℕ → Type 0
IsInputOf (Run target) before input = before.remaining ≡ Some input
IsInputOf (Recover target) before input = input ≡ []
IsInputOf (Import target words) before input = before.remaining ≡ Some input
IsInputOf (Generate target entries) before input = input ≡ []

-- What a run begins with: the file, the text printed before, and the input; the records that something refers to, or those of a new file,
-- and the state that they stand for; and what is to be printed after the close.
pub record Beginning : Type 0 where
  pub file : List ℕ
  pub text : List ℕ
  pub input : List ℕ
  pub links : List Link
  pub state : State
  pub listing : List ℕ

-- what the commands of a verb do to the file
abbrev pub file_run_of : Work → Beginning → FileRun
file_run_of work b = file_run_from (target_of work).datime b.links b.state (commands_of work b.input)

abbrev pub run_of_work : Work → Beginning → ScriptRun
run_of_work work b =
    record { start = b.state; commands = commands_of work b.input; marks = (file_run_of work b).marks; replies = replies_of work; listing = b.listing }

-- the first 100 bytes of the open file are those of this one: a new file, or the file of before with the mark of an open file
abbrev pub IsOpenHeader : TargetFile → List ℕ → List ℕ → Type 0
IsOpenHeader target file header = MatchBool (is_unborn file) (header ≡ new_file target.name target.datime) (SaysEnd open_end file header)

-- Each crash image is closed at the verb's time, without garbage, with just these records before its close. Its name is that of its first
-- record: for a new file the verb's, for any other the one that it had.
pub record LeavesClosed (work : Work) (b : Beginning) (links : List Link) (v : View) : Type 0 where
  pub header : List ℕ
  pub header_is : IsOpenHeader (target_of work) b.file header
  pub left : (image said : List ℕ) → Leaves v image said
      → IsWellClosed (name_in (keyed_records b.links)) (target_of work).datime header links image

-- the records behind the commands of a verb and the saves of its close
abbrev pub records_behind : Work → Beginning → List Link
records_behind work b = closed_records (target_of work).datime (without_pending b.links) b.state (commands_of work b.input)

-- those that it leaves: a recovery those that it begins with
abbrev pub records_of : Work → Beginning → List Link
records_of (Run target) b = records_behind (Run target) b
records_of (Recover target) b = b.links
records_of (Import target words) b = records_behind (Import target words) b
records_of (Generate target entries) b = records_behind (Generate target entries) b

-- They are the records of the run, each at its place and with its bytes.
abbrev pub LeavesRun : Work → Beginning → View → Type 0
LeavesRun work b new = LeavesClosed work b (records_of work b) new

-- nothing was written and no call looked at the file
abbrev pub IsUntouched : View → View → Type 0
IsUntouched old new = OnlyReads old new × (new.reads ≡ old.reads)

-- What is taken for granted at the start: the host is quiet and tells its file and what it said, and the file isn't made yet or
-- reads as a state.
pub record BeginsRun (work : Work) (b : Beginning) (old : View) : Type 0 where
  pub quiet : IsQuiet old
  pub holds : old.holds ≡ Some b.file
  pub said : old.said ≡ Some b.text
  pub reads : ReadsAsState b.file b.state
  pub begins : OpensWith (target_of work).name (target_of work).datime b.file b.links
  pub listing : IsListingOf work b.links b.listing

-- Wherever it is stopped, whatever it answers, it leaves a prefix of the run. What it said is a front of all that the run says, and where file
-- and commands so far leave room for a command, its reply isn't want of room, if something of it was said. Where it says that it is done it
-- is, and each file that a stop leaves then was closed under its name and time, without garbage, with the records of the run; where it ends
-- early it doesn't close the file, unless it is a recovery that could not say its listing, or a generated file behind its close. A verb that
-- reads the input reads all of it before anything else: where it could not, nothing was written and no call looked at the file, and no
-- answer tells of the file, its disk or its text.
pub record KeepsHeadline (work : Work) (old new : View) (before after : Input) (status : Status) : Type 0 where
  pub stops : (b : Beginning) → BeginsRun work b old → IsInputOf work before b.input
      → Elapses old new (IsStopOf (run_of_work work b) b.file b.text)
  pub said : (b : Beginning) → BeginsRun work b old → IsInputOf work before b.input
      → SaysPart new b.text (all_texts (run_of_work work b))
  pub room : (b : Beginning) → BeginsRun work b old → IsInputOf work before b.input
      → SaidFindRoom (opening_length b.file) (run_of_work work b) b.text new
  pub done : (b : Beginning) → BeginsRun work b old → IsInputOf work before b.input
      → status ≡ Done → IsRunDone (run_of_work work b) b.file b.text new
  pub written : (b : Beginning) → BeginsRun work b old → status ≡ Done → (links : List Link) × LeavesClosed work b links new
  pub records : (b : Beginning) → BeginsRun work b old → IsInputOf work before b.input → status ≡ Done → LeavesRun work b new
  pub unclosed : (b : Beginning) → BeginsRun work b old → IsInputOf work before b.input
      → EndsUnclosed work (run_of_work work b) b.file b.text old new status
  pub input : (input : List ℕ) → takes_input work ≡ true → before.remaining ≡ Some input
      → IsPastInput status → after.remaining ≡ Some []
  pub order : (input : List ℕ) → takes_input work ≡ true → before.remaining ≡ Some input
      → (after.remaining ≡ Some []) ⊎ IsUntouched old new
  pub told : Becomes Any old.holds new.holds

-- How a run ends that writes.
pub record EndsWriting (work : Work) (old new : View) (before after : Input) (status : Status) : Type 0 where
  pub headline : KeepsHeadline work old new before after status
  pub spares : SparesRefused work old new status
