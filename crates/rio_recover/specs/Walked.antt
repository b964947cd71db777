-- What a walk through a file answers.
use Rattle.std.specs.Prelude.{◌≡◌, ℕ, List, false, Some, Result, Ok, Err}
use Rattle.rio_head.specs.{Form.{is_large_head}, Head.{fault_at, head_at}, declared.head.FileHead.{FileHead}}
use Rattle.rio_chain.specs.{Adjoining.{AreSegments}, Chains.{HasChain}, Segments.{Link}}
use Rattle.rio_state.specs.{KeyedRecords.{keyed_records}, Reasons.{IsReasonOfMade, reason_at}}
use Rattle.rio_chain.specs.Keyed.{AreKeyed, IsRecordKey}
use Rattle.rio_recover.specs.{Keys.{record_heads}, Whole.{BeginsWithFile, HoldsDirectory}, declared.fault.RecoverFault.{RecoverFault, TheVariants.{BadFile, ReadOnly, NoMemory, HostFault}}}
use Rattle.rio_recover.specs.declared.walked.Walked.{Walked}

-- the header breaks no rule and has the small form
pub record IsSmallHead (file : List ℕ) (head : FileHead) : Type 0 where
  pub head_is : head_at file ≡ Ok head
  pub small : is_large_head head.version ≡ false

-- the header of the small form; else the rule that it breaks, or the first reason not to write to a file whose header breaks none
abbrev pub JudgesHead : Result FileHead RecoverFault → List ℕ → Type 0
JudgesHead (Ok head) file = IsSmallHead file head
JudgesHead (Err (BadFile place kind)) file = head_at file ≡ Err (fault_at place kind)
JudgesHead (Err (ReadOnly place reason)) file = IsReasonOfMade file (Some (reason_at place reason))
JudgesHead (Err NoMemory) file = Unit {0}
JudgesHead (Err HostFault) file = Unit {0}

-- the segments of the file and the keys of its records
pub record IsWalked (file : List ℕ) (walked : Walked) : Type 0 where
  pub head : FileHead
  pub small : IsSmallHead file head
  pub nbytes_name : walked.nbytes_name ≡ head.nbytes_name
  pub links : List Link
  pub chain : HasChain links walked.segments file
  pub heads : walked.heads ≡ record_heads (keyed_records links)

abbrev pub JudgesWalk : Result Walked RecoverFault → List ℕ → Type 0
JudgesWalk (Ok walked) file = IsWalked file walked
JudgesWalk (Err (BadFile place kind)) file = head_at file ≡ Err (fault_at place kind)
JudgesWalk (Err (ReadOnly place reason)) file = IsReasonOfMade file (Some (reason_at place reason))
JudgesWalk (Err NoMemory) file = Unit {0}
JudgesWalk (Err HostFault) file = Unit {0}

-- ---- whatever the host tells

-- the keys are those of the records; the first is that of a first record, and the directory record is within it
pub record IsWholeWalk (walked : Walked) : Type 0 where
  pub shape : AreSegments walked.segments
  pub keyed : AreKeyed IsRecordKey walked.segments walked.heads
  pub first : BeginsWithFile walked.heads
  pub directory : HoldsDirectory walked.nbytes_name walked.segments
