-- What holds of every file: it reads as one state at most, and has one first reason.
use Rattle.std.specs.Prelude.{◌≡◌, ◌⊎◌, ℕ, List, Option, Some, None}
use Rattle.rio_head.specs.declared.reason.Reason.TheVariants.{TooMany, NoRoom}
use Rattle.rio_dir.specs.Unborn.{header_fault}
use Rattle.rio_machine.specs.State.{State}
use Rattle.rio_state.specs.{Reads.{ReadsAsState}, Reasons.{IsFirstReason, ReasonAt}}

-- a file reads as at most one state
abbrev pub ReadsAsOneState : Type 0
ReadsAsOneState = (file : List ℕ) (m n : State) → ReadsAsState file m → ReadsAsState file n → m ≡ n

-- a file has one first reason, or none
abbrev pub HasOneReason : Type 0
HasOneReason = (file : List ℕ) (a b : Option ReasonAt) → IsFirstReason file a → IsFirstReason file b → a ≡ b

-- a reason of those that stand behind a reading: too many items, or no room
abbrev pub IsOfRoom : Option ReasonAt → Type 0
IsOfRoom None = Unit {0}
IsOfRoom (Some r) = (r.reason ≡ TooMany) ⊎ (r.reason ≡ NoRoom)

-- where a file reads as a state, its header breaks no rule, and nothing stands against writing but want of room
pub record HasRoomReasonsAlone (file : List ℕ) : Type 0 where
  pub fault : header_fault file ≡ None
  pub some : (found : Option ReasonAt) × IsFirstReason file found
  pub reason : (found : Option ReasonAt) → IsFirstReason file found → IsOfRoom found

abbrev pub ReadsMeetsNoReason : Type 0
ReadsMeetsNoReason = (file : List ℕ) (m : State) → ReadsAsState file m → HasRoomReasonsAlone file

-- and where nothing stands against writing but want of room, a file whose header breaks no rule reads as a state
abbrev pub NoReasonIsRead : Type 0
NoReasonIsRead = (file : List ℕ) (found : Option ReasonAt) → IsFirstReason file found → IsOfRoom found → (m : State) × ReadsAsState file m
