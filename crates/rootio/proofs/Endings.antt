-- How a run ends that says a listing.
use Rattle.std.proofs.Common.{◌≡◌, ℕ, List, true, false, Option, Some, None, Result, Ok, Err, refl, sym, ap, ◌∙◌}
use Rattle.rio_num.specs.Reading.{◌>>=◌}
use Rattle.rio_head.specs.{declared.fault.FileFault.{FileFault}, declared.fault.HeadFault.{HeadFault}, Head.{fault_at}}
use Rattle.rio_host.specs.{Host.{View}, Source.{Input}}
use Rattle.rio_dir.specs.{Closed.{closed_file, fault_of}, Listing.{key_lines, listed_file}}
use Rattle.rio_report.specs.{declared.item.Item.{Item}, Described.{described_file}, Dump.{dump_text, dumped_file}}
use Rattle.rio_report.specs.{RowForms.{RowForm, row_form}, Scan.{scan_text, scanned_file}}
use Rattle.rio_close.specs.Causes.{AnyKind, IsSayCauseOf, IsTested}
use Rattle.rio_close.specs.declared.fault.ReportFault.TheVariants.{BadFile as FileBad, NoMemory as OutOfMemory, HostFault, SayFault as NotSaid}
use Rattle.rio_report.specs.{Lists.{AnswersOf, ListingAnswer}, PiecesCause.{IsPiecesCauseOf}}
use Rattle.rootio.specs.{declared.status.Status.{Status, TheVariants.{BadFile}}, declared.words.Form.TheVariants.{Reads}}
use Rattle.rootio.specs.{declared.words.Listing.{Listing, TheVariants.{Ls, Dump, Scan, Export}}, Complete.{CanBeDone, IsComplete, IsDoneOrNoMemory, NoneRose}}
use Rattle.rootio.specs.{Reading.{EndsListing, RefusesBroken, TellsFirstFault, TellsUnlessCut, rules_of}, Status.{status_of}}

-- ---- the first fault of a file is that of its listing

fault_kept : {A B : Type 0} (read : Result A HeadFault) (g : A → B) → fault_of (read >>= λ x. Ok (g x)) ≡ fault_of read
fault_kept (Ok x) g = refl
fault_kept (Err e) g = refl

listed_first : (file : List ℕ) → fault_of (listed_file file) ≡ fault_of (closed_file file)
unfolding listed_file
listed_first file = fault_kept (closed_file file) (λ c. key_lines c.keys)

dumped_first : (item : Option Item) (file : List ℕ) → fault_of (dumped_file item file) ≡ fault_of (described_file file)
unfolding dumped_file
dumped_first item file = fault_kept (described_file file) (λ d. dump_text file item d)

scanned_first : (form : RowForm) (tree : List ℕ) (file : List ℕ) → fault_of (scanned_file form tree file) ≡ fault_of (described_file file)
unfolding scanned_file
scanned_first form tree file = fault_kept (described_file file) (λ d. scan_text form file tree d)

-- ---- and it is told

tells : (listed : Result (List ℕ) HeadFault) (told : ListingAnswer) → AnswersOf listed told → (place : ℕ) (kind : FileFault) → status_of told ≡ BadFile place kind → fault_of listed ≡ Some (fault_at place kind)
tells listed (Ok x) answers place kind e = absurd cc
tells listed (Err (FileBad p k)) answers place kind e =
    let here : p ≡ place = cc in
    let so : k ≡ kind = cc in
    ap fault_of answers ∙ ap (λ (q : ℕ). Some (fault_at q k)) here ∙ ap (λ (q : FileFault). Some (fault_at place q)) so
tells listed (Err OutOfMemory) answers place kind e = absurd cc
tells listed (Err HostFault) answers place kind e = absurd cc
tells listed (Err NotSaid) answers place kind e = absurd cc

yields : (listed : Result (List ℕ) HeadFault) (told : ListingAnswer) (fault : HeadFault) → AnswersOf listed told → fault_of listed ≡ Some fault → TellsUnlessCut fault (status_of told)
yields (Ok text) told fault answers e = absurd cc
yields (Err f) (Ok x) fault answers e = absurd cc
yields (Err f) (Err (FileBad p k)) fault answers e =
    let is : Some f ≡ Some (fault_at p k) = ap fault_of answers in
    cc
yields (Err f) (Err OutOfMemory) fault answers e = tt
yields (Err f) (Err HostFault) fault answers e = tt
yields (Err f) (Err NotSaid) fault answers e = absurd cc

module _ (old new : View) (status : Status) where
  pub ends_tells : (list : Listing) → EndsListing list old new status → TellsFirstFault (rules_of (Reads list)) old status
  ends_tells Ls ends place kind e file here =
      sym (listed_first file) ∙ tells (listed_file file) ends.0 (ends.2.refused file here) place kind (sym ends.1 ∙ e)
  ends_tells (Dump item) ends place kind e file here =
      sym (dumped_first item file) ∙ tells (dumped_file item file) ends.0 (ends.2.refused file here) place kind (sym ends.1 ∙ e)
  ends_tells (Scan tree class) ends place kind e file here =
      sym (scanned_first (row_form class false) tree file) ∙ tells (scanned_file (row_form class false) tree file) ends.0 (ends.2.refused file here) place kind (sym ends.1 ∙ e)
  ends_tells (Export tree) ends place kind e file here =
      sym (scanned_first (row_form None true) tree file) ∙ tells (scanned_file (row_form None true) tree file) ends.0 (ends.2.refused file here) place kind (sym ends.1 ∙ e)

  pub ends_refused : (list : Listing) → EndsListing list old new status → RefusesBroken (rules_of (Reads list)) old status
  ends_refused Ls ends fault file here e =
      rw ends.1 (yields (listed_file file) ends.0 fault (ends.2.refused file here) (listed_first file ∙ e))
  ends_refused (Dump item) ends fault file here e =
      rw ends.1 (yields (dumped_file item file) ends.0 fault (ends.2.refused file here) (dumped_first item file ∙ e))
  ends_refused (Scan tree class) ends fault file here e =
      rw ends.1 (yields (scanned_file (row_form class false) tree file) ends.0 fault (ends.2.refused file here) (scanned_first (row_form class false) tree file ∙ e))
  ends_refused (Export tree) ends fault file here e =
      rw ends.1 (yields (scanned_file (row_form None true) tree file) ends.0 fault (ends.2.refused file here) (scanned_first (row_form None true) tree file ∙ e))

-- ---- where nothing fails

module _ (old new : View) (status : Status) (before : Input) where
  not_sound : (list : Listing) → CanBeDone (Reads list) old before → EndsListing list old new status → (place : ℕ) (kind : FileFault) → status ≡ BadFile place kind → ⊥
  not_sound list can ends place kind is =
      let told = ends_tells old new status list ends place kind is can.file can.holds in
      let sound = can.sound in
      cc

  ends_by : (tested : FileFault → Type 0) (list : Listing) → CanBeDone (Reads list) old before → EndsListing list old new status
      → (told : ListingAnswer) → status ≡ status_of told → IsSayCauseOf tested old new told → NoneRose old new before before → IsDoneOrNoMemory (status_of told)
  ends_by tested list can ends (Ok x) is cause none = tt
  ends_by tested list can ends (Err (FileBad place kind)) is cause none = not_sound list can ends place kind is
  ends_by tested list can ends (Err OutOfMemory) is cause none = tt
  ends_by tested list can ends (Err HostFault) is cause none = none.disk cause.0
  ends_by tested list can ends (Err NotSaid) is cause none = none.say cause.1

  -- by the cause of a listing that is said in pieces
  ends_by_pieces : (list : Listing) → CanBeDone (Reads list) old before → EndsListing list old new status
      → (told : ListingAnswer) → status ≡ status_of told → IsPiecesCauseOf AnyKind old new told → NoneRose old new before before → IsDoneOrNoMemory (status_of told)
  ends_by_pieces list can ends (Ok x) is cause none = tt
  ends_by_pieces list can ends (Err (FileBad place kind)) is cause none = not_sound list can ends place kind is
  ends_by_pieces list can ends (Err OutOfMemory) is cause none = tt
  ends_by_pieces list can ends (Err HostFault) is cause none = none.disk cause
  ends_by_pieces list can ends (Err NotSaid) is cause none = none.say cause.1

  pub ends_complete : (list : Listing) → EndsListing list old new status → IsComplete (Reads list) old new before before status
  ends_complete Ls ends can none = rw ends.1 (ends_by IsTested Ls can ends ends.0 ends.1 ends.2.cause none)
  ends_complete (Dump item) ends can none = rw ends.1 (ends_by_pieces (Dump item) can ends ends.0 ends.1 ends.2.cause none)
  ends_complete (Scan tree class) ends can none = rw ends.1 (ends_by_pieces (Scan tree class) can ends ends.0 ends.1 ends.2.cause none)
  ends_complete (Export tree) ends can none = rw ends.1 (ends_by_pieces (Export tree) can ends ends.0 ends.1 ends.2.cause none)
