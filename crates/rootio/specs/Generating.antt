-- A file is generated: its commands are done, it is closed, and a line of what it sums up to is said.
use Rattle.std.specs.Prelude.{◌≡◌, ◌⊎◌, ℕ, List, true, Some, Result, Ok, Err, OnOk}
use Rattle.std.specs.List.{list_all}
use Rattle.rio_chain.specs.Segments.{Link}
use Rattle.rio_gen.specs.{Generated.{gen_script, tree_name}, Summary.{summary_text}}
use Rattle.rio_head.specs.{Head.{IsHeaderKind, fault_at, head_at}, declared.head.FileHead.{FileHead}, declared.reason.Reason.TheVariants.{NotNew}}
use Rattle.rio_host.specs.{Host.{Any, Becomes, Elapses, Longer, LongerByPart, Rose, Speaking, View}, OnlyReads.{Grown, OnlyReads}, Reading.{Told}}
use Rattle.rio_machine.specs.State.{State}
use Rattle.rio_report.specs.{Summary.{summarized_file}, declared.summary.TreeSummary.{TreeSummary}}
use Rattle.rio_session.specs.{Causes.{IsSessionCause}, Session.{SessionState, StandsFor}, declared.replies.Replies.TheVariants.{Omitted}}
use Rattle.rio_session.specs.declared.fault.SessionFault.{SessionFault, TheVariants.{HostFault, SayFault as NotSaid, NoMemory as OutOfMemory}}
use Rattle.rio_step.specs.Statable.{is_statable}
use Rattle.rootio.specs.{Generated.{line_of_records}, Headline.{IsStopOf, SaidFindRoom, ScriptRun}, Script.{HasClosed, session_closed_records, session_file_run}}
use Rattle.rootio.specs.Writing.{EndsInClose, LeavesOpen, SaysWhole, StandsBetween, StandsClosed}
use Rattle.rootio.specs.declared.status.Status.{Status, TheVariants.{Done, Usage, BadFile, DiskFault, InputFault, NoMemory, InputTooLong, ReadOnly, SayFault}}

-- a line of a script can state each command
abbrev pub GeneratedIsStatable : Type 0
GeneratedIsStatable = (entries : ℕ) → list_all is_statable (gen_script entries) ≡ true

-- ---- the line

-- this is the line of what the file sums up to
abbrev pub IsLineOf : ℕ → List ℕ → List ℕ → Type 0
IsLineOf entries file line =
    (s : TreeSummary) × (summarized_file tree_name file ≡ Ok s) × (line ≡ summary_text (record { entries = entries; baskets = s.baskets; sum = s.sum }))

-- the line that is made of a file, if it sums up to anything
abbrev pub MakesLine : ℕ → List ℕ → List ℕ → Type 0
MakesLine entries file line =
    (s : TreeSummary) → summarized_file tree_name file ≡ Ok s → line ≡ summary_text (record { entries = entries; baskets = s.baskets; sum = s.sum })

-- why the line could not be made
abbrev pub IsLookCause : {X : Type 0} → View → View → Result X SessionFault → Type 0
IsLookCause old new (Ok x) = new.disk_faults ≡ old.disk_faults
IsLookCause old new (Err HostFault) = Rose old.disk_faults new.disk_faults
IsLookCause old new (Err NotSaid) = ⊥
IsLookCause old new (Err OutOfMemory) = new.disk_faults ≡ old.disk_faults

-- how much of the line was said
abbrev pub SaysLine : List ℕ → View → View → Result (Unit {0}) SessionFault → Type 0
SaysLine line old new (Ok x) = Becomes (Longer line) old.said new.said
SaysLine line old new (Err HostFault) = new.said ≡ old.said
SaysLine line old new (Err NotSaid) = Becomes (LongerByPart line) old.said new.said
SaysLine line old new (Err OutOfMemory) = new.said ≡ old.said

-- A closed file is read again, and the line of what it sums up to is said. The file stays as it is.
pub record SaysSummary (entries : ℕ) (old new : View) (result : Result (Unit {0}) SessionFault) : Type 0 where
  pub holds : new.holds ≡ old.holds
  pub grows : Becomes Grown old.said new.said
  pub time : (file line : List ℕ) → old.holds ≡ Some file → IsLineOf entries file line → Elapses old new (Speaking line old)
  pub said : (file line : List ℕ) → old.holds ≡ Some file → IsLineOf entries file line → SaysLine line old new result
  pub cause : IsSessionCause old new result

-- ---- the run

-- the run of the generated commands from a session on, whose file has these records, with the line behind the close
abbrev pub generated_run : SessionState → ℕ → List Link → State → ScriptRun
generated_run s entries links m = record {
  start = m;
  commands = gen_script entries;
  marks = (session_file_run s links m (gen_script entries)).marks;
  replies = Omitted;
  listing = line_of_records entries (session_closed_records s links m (gen_script entries));
}

-- How it ends early: the file is open, or its close failed; or it is closed, and the line could not be made or said.
abbrev pub EndsGenerated : ScriptRun → List ℕ → View → Result (Unit {0}) SessionFault → Type 0
EndsGenerated r before new (Ok x) = Unit {0}
EndsGenerated r before new (Err HostFault) = (LeavesOpen new × SaysWhole r before new) ⊎ (EndsInClose r before new ⊎ StandsClosed r before new)
EndsGenerated r before new (Err NotSaid) = StandsClosed r before new
EndsGenerated r before new (Err OutOfMemory) = StandsBetween r before new ⊎ StandsClosed r before new

pub record GeneratesAndSays (old new : View) (s : SessionState) (entries : ℕ) (result : Result (Unit {0}) SessionFault) : Type 0 where
  pub stops : (file text : List ℕ) (m : State) (stands : StandsFor old s m text)
      → Elapses old new (IsStopOf (generated_run s entries stands.state.links m) file text)
  pub done : OnOk result ((m : State) (text : List ℕ) (stands : StandsFor old s m text)
      → HasClosed (generated_run s entries stands.state.links m) stands.state.links stands.file s text new)
  pub unclosed : (m : State) (text : List ℕ) (stands : StandsFor old s m text)
      → EndsGenerated (generated_run s entries stands.state.links m) text new result
  pub told : Becomes Any old.holds new.holds
  pub said : Becomes Grown old.said new.said
  pub room : (m : State) (text : List ℕ) (stands : StandsFor old s m text) → s.costs ≡ 0
      → SaidFindRoom s.opened (generated_run s entries stands.state.links m) text new
  pub cause : IsSessionCause old new result

-- ---- a file that is made

-- its header breaks this rule, or none, and then it isn't new; or a call on it failed
abbrev pub RefusesMade : View → View → Status → Type 0
RefusesMade old new Done = ⊥
RefusesMade old new Usage = ⊥
RefusesMade old new (BadFile place kind) =
    Told old (λ file. head_at file ≡ Err (fault_at place kind)) × IsHeaderKind kind × (new.disk_faults ≡ old.disk_faults)
RefusesMade old new DiskFault = Rose old.disk_faults new.disk_faults
RefusesMade old new InputFault = ⊥
RefusesMade old new NoMemory = ⊥
RefusesMade old new InputTooLong = ⊥
RefusesMade old new (ReadOnly place reason) =
    Told old (λ file. (head : FileHead) × (head_at file ≡ Ok head)) × (place ≡ 0) × (reason ≡ NotNew) × (new.disk_faults ≡ old.disk_faults)
RefusesMade old new SayFault = ⊥
