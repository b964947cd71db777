-- What is said of a file that breaks no rule is its listing, and a fault in reading it is one of its listing.
use Rattle.std.proofs.Common.{◌≡◌, ℕ, List, Option, Some, Result, Ok, Err, refl, sym, ap}
use Rattle.rio_num.specs.Reading.{◌>>=◌}
use Rattle.rio_head.specs.{declared.fault.FileFault.{FileFault}, declared.fault.HeadFault.{HeadFault}}
use Rattle.rio_host.specs.{Host.{View}, OnlyReads.{OnlySaysPieces}}
use Rattle.rio_host.proofs.PiecesLaws.{pieces_as, pieces_part}
use Rattle.rio_dir.specs.Listing.{said_listing}
use Rattle.rio_report.specs.{declared.described.Described.{Described}, declared.item.Item.{Item}, Described.{described_file}, Dump.{dump_text, dumped_file}}
use Rattle.rio_close.specs.{Causes.{IsHostCauseOf, NoKind}, Opens.{Opens}}
use Rattle.rio_close.specs.declared.fault.ReportFault.{ReportFault, TheVariants.{BadFile, NoMemory, HostFault, SayFault}}
use Rattle.rio_report.specs.{Gathered.{SaysByLine}, Lists.{AnswersOf, InPieces, IsDone, ListingAnswer, ListingOf, SaysWholeLines}, PiecesCause.{IsPiecesCauseOf}}

module _ (item : Option Item) (file : List ℕ) where
  abbrev dumped_by : Result Described HeadFault → Result (List ℕ) HeadFault
  dumped_by read = read >>= λ described. Ok (dump_text file item described)

  pub dumped_is : (described : Described) → described_file file ≡ Ok described → dumped_file item file ≡ Ok (dump_text file item described)
  unfolding dumped_file
  dumped_is described is = ap dumped_by is

  pub dumped_bad : (fault : HeadFault) → described_file file ≡ Err fault → dumped_file item file ≡ Err fault
  unfolding dumped_file
  dumped_bad fault is = ap dumped_by is

-- A fault in reading a file refuses its listing.
pub read_refuses : {X : Type 0} (tested : FileFault → Type 0) (old new : View) (listed : Result (List ℕ) HeadFault) (read : Result X HeadFault)
    → ((fault : HeadFault) → read ≡ Err fault → listed ≡ Err fault)
    → (e : ReportFault) → Opens {X = X} (Err e) read → IsHostCauseOf {X = X} tested old new (Err e) → AnswersOf listed (Err e)
read_refuses tested old new listed read bad (BadFile place kind) opens cause = bad _ opens
read_refuses tested old new listed read bad NoMemory opens cause = tt
read_refuses tested old new listed read bad HostFault opens cause = tt
read_refuses tested old new listed read bad SayFault opens cause = absurd cause

-- a file that is read is refused for no fault of it
pub read_answers : (old new : View) (listed : Result (List ℕ) HeadFault) (text : List ℕ) → listed ≡ Ok text → (r : ListingAnswer) → IsPiecesCauseOf NoKind old new r → AnswersOf listed r
read_answers old new listed text is (Ok x) cause = rw is refl
read_answers old new listed text is (Err (BadFile place kind)) cause = absurd cause.0
read_answers old new listed text is (Err NoMemory) cause = tt
read_answers old new listed text is (Err HostFault) cause = tt
read_answers old new listed text is (Err SayFault) cause = rw is refl

module _ (listing : ListingOf) (text_of : List ℕ → List ℕ) (a d : View) (is : (file : List ℕ) → a.holds ≡ Some file → listing file ≡ Ok (text_of file)) where
  listing_is : (file : List ℕ) → a.holds ≡ Some file → text_of file ≡ said_listing (listing file)
  listing_is file told = sym (ap said_listing (is file told))

  pub told_calls : (r : ListingAnswer) → SaysByLine text_of a d r → OnlySaysPieces (λ file. said_listing (listing file)) a d
  told_calls (Ok x) says = pieces_as text_of (λ file. said_listing (listing file)) listing_is (pieces_part text_of says)
  told_calls (Err e) says = pieces_as text_of (λ file. said_listing (listing file)) listing_is says.part

  pub told_done : (r : ListingAnswer) → SaysByLine text_of a d r → IsDone listing a d r
  told_done (Ok x) says = λ file told. rw (is file told) (says.extent_said file told)
  told_done (Err e) says = tt

  pub told_lines : (r : ListingAnswer) → SaysByLine text_of a d r → SaysWholeLines InPieces a d r
  told_lines (Ok x) says = tt
  told_lines (Err e) says = says.lines
