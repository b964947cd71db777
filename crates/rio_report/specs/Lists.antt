-- A call that says what there is to say of a file: what it answers, says and leaves.
use Rattle.std.specs.Prelude.{◌≡◌, ℕ, List, [], Some, Result, Ok, Err, IsOk, IsOkAnd}
use Rattle.rio_head.specs.{declared.fault.FileFault.{FileFault}, declared.fault.HeadFault.{HeadFault}, Head.{fault_at}}
use Rattle.rio_host.specs.{Host.{View, Becomes, Longer}, OnlyReads.{OnlySays, OnlySaysPieces}}
use Rattle.rio_dir.specs.Listing.{said_listing}
use Rattle.rio_report.specs.{Gathered.{SaysLines}, PiecesCause.{IsPiecesCauseOf}}
use Rattle.rio_close.specs.{Causes.{IsSayCauseOf}, declared.fault.ReportFault.{ReportFault, TheVariants.{BadFile, NoMemory, HostFault, SayFault}}}

-- what is said of a file, or the first rule that it breaks
abbrev pub ListingOf : Type 0
ListingOf = List ℕ → Result (List ℕ) HeadFault

abbrev pub ListingAnswer : Type 0
ListingAnswer = Result (Unit {0}) ReportFault

-- a listing is said by one call of the host, or by several
pub data Manner : Type 0 where
  AtOnce : Manner
  InPieces : Manner

-- The file is as before, and at most a front of its listing was said.
abbrev pub SaysFront : Manner → ListingOf → View → View → Type 0
SaysFront AtOnce listing old new = OnlySays (λ file. said_listing (listing file)) old new
SaysFront InPieces listing old new = OnlySaysPieces (λ file. said_listing (listing file)) old new

-- all of it was said
abbrev pub SaysAll : ListingOf → View → View → Type 0
SaysAll listing old new =
    (file : List ℕ) → old.holds ≡ Some file
    → IsOkAnd (listing file) (λ text. Becomes (Longer text) old.said new.said)

abbrev pub IsDone : ListingOf → View → View → ListingAnswer → Type 0
IsDone listing old new (Ok x) = SaysAll listing old new
IsDone listing old new (Err e) = Unit {0}

-- A file that breaks a rule is told with the first one and its place, unless memory ran out or a call on the file failed; a file
-- that breaks none isn't.
abbrev pub AnswersOf : Result (List ℕ) HeadFault → ListingAnswer → Type 0
AnswersOf listed (Ok x) = IsOk listed
AnswersOf listed (Err (BadFile place kind)) = listed ≡ Err (fault_at place kind)
AnswersOf listed (Err NoMemory) = Unit {0}
AnswersOf listed (Err HostFault) = Unit {0}
AnswersOf listed (Err SayFault) = IsOk listed

abbrev pub Refuses : ListingOf → View → ListingAnswer → Type 0
Refuses listing old told = (file : List ℕ) → old.holds ≡ Some file → AnswersOf (listing file) told

-- The answers with which nothing was said. Where the listing is said at once: all but Ok and SayFault. Where it is said in
-- pieces: BadFile alone.
abbrev pub IsSilent : Manner → ListingAnswer → Type 0
IsSilent AtOnce (Ok x) = ⊥
IsSilent AtOnce (Err (BadFile place kind)) = Unit {0}
IsSilent AtOnce (Err NoMemory) = Unit {0}
IsSilent AtOnce (Err HostFault) = Unit {0}
IsSilent AtOnce (Err SayFault) = ⊥
IsSilent InPieces (Ok x) = ⊥
IsSilent InPieces (Err (BadFile place kind)) = Unit {0}
IsSilent InPieces (Err NoMemory) = ⊥
IsSilent InPieces (Err HostFault) = ⊥
IsSilent InPieces (Err SayFault) = ⊥

abbrev pub StaysSilent : Manner → View → View → ListingAnswer → Type 0
StaysSilent manner old new told = IsSilent manner told → new.said ≡ old.said

-- Where a call fails that says a listing in pieces, whole lines were said: those that were complete when it failed. A call on the
-- text that fails can leave a part of a line.
abbrev pub SaysWholeLines : Manner → View → View → ListingAnswer → Type 0
SaysWholeLines manner old new (Ok x) = Unit {0}
SaysWholeLines AtOnce old new (Err e) = Unit {0}
SaysWholeLines InPieces old new (Err e) = SaysLines [] old new

-- why it ends so
abbrev pub IsListingCause : Manner → (FileFault → Type 0) → View → View → ListingAnswer → Type 0
IsListingCause AtOnce tested old new told = IsSayCauseOf tested old new told
IsListingCause InPieces tested old new told = IsPiecesCauseOf tested old new told

-- What a call answers, says and leaves that says a listing and tests these kinds of fault.
pub record Lists (manner : Manner) (tested : FileFault → Type 0) (listing : ListingOf) (old new : View) (told : ListingAnswer)
    : Type 0 where
  pub done : IsDone listing old new told
  pub refused : Refuses listing old told
  pub calls : SaysFront manner listing old new
  pub silent : StaysSilent manner old new told
  pub lines : SaysWholeLines manner old new told
  pub cause : IsListingCause manner tested old new told
