-- Where nothing fails, all is done unless memory runs out.
use Rattle.std.specs.Prelude.{◌≡◌, ◌≤◌, ℕ, List, length, Some, None}
use Rattle.rio_host.specs.{Host.{Rose, View}, Source.{Input}}
use Rattle.rio_machine.specs.State.{State}
use Rattle.rio_state.specs.Reads.{ReadsAsState}
use Rattle.rio_report.specs.FirstFault.{first_fault}
use Rattle.rootio.specs.{Input.{input_limit}, Reading.{rules_of}, Writing.{IsFirstReasonFor}}
use Rattle.rootio.specs.declared.status.Status.{Status, TheVariants.{Done, Usage, BadFile, DiskFault, InputFault, NoMemory, InputTooLong, ReadOnly, SayFault}}
use Rattle.rootio.specs.{declared.words.Form.{Form, TheVariants.{Reads, Writes}}, declared.words.Work.{Work, TheVariants.{Run, Recover, Import, Generate}}}

-- the file is told and breaks no rule that the verb tests
pub record IsSound (form : Form) (old : View) : Type 0 where
  pub file : List ℕ
  pub holds : old.holds ≡ Some file
  pub sound : first_fault (rules_of form) file ≡ None

-- the input is told, and no longer than it may be
abbrev pub IsWithinLimit : Input → Type 0
IsWithinLimit before = (input : List ℕ) × (before.remaining ≡ Some input) × (length input ≤ input_limit)

-- so is that of a verb that reads it
abbrev pub IsInputWithin : Work → Input → Type 0
IsInputWithin (Run target) before = IsWithinLimit before
IsInputWithin (Recover target) before = Unit {0}
IsInputWithin (Import target words) before = IsWithinLimit before
IsInputWithin (Generate target entries) before = Unit {0}

-- The file is told, it isn't made yet or reads as a state, and nothing stands against writing to it. What is generated is a new
-- file, so a file that is made stands against it.
pub record IsOpenable (work : Work) (old : View) (before : Input) : Type 0 where
  pub file : List ℕ
  pub holds : old.holds ≡ Some file
  pub state : State
  pub reads : ReadsAsState file state
  pub free : IsFirstReasonFor work file None
  pub input : IsInputWithin work before

-- Nothing in file and input stands in the way of the verb.
abbrev pub CanBeDone : Form → View → Input → Type 0
CanBeDone (Reads list) old before = IsSound (Reads list) old
CanBeDone (Writes work) old before = IsOpenable work old before

-- no count of faults rose
pub record NoneRose (old new : View) (before after : Input) : Type 0 where
  pub disk : ¬ Rose old.disk_faults new.disk_faults
  pub say : ¬ Rose old.say_faults new.say_faults
  pub input : ¬ Rose before.faults after.faults

abbrev pub IsDoneOrNoMemory : Status → Type 0
IsDoneOrNoMemory Done = Unit {0}
IsDoneOrNoMemory Usage = ⊥
IsDoneOrNoMemory (BadFile place kind) = ⊥
IsDoneOrNoMemory DiskFault = ⊥
IsDoneOrNoMemory InputFault = ⊥
IsDoneOrNoMemory NoMemory = Unit {0}
IsDoneOrNoMemory InputTooLong = ⊥
IsDoneOrNoMemory (ReadOnly place reason) = ⊥
IsDoneOrNoMemory SayFault = ⊥

-- where the verb can be done and nothing fails, it is done or memory ran out
abbrev pub IsComplete : Form → View → View → Input → Input → Status → Type 0
IsComplete form old new before after status = CanBeDone form old before → NoneRose old new before after → IsDoneOrNoMemory status
