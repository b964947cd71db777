-- Calls of verbs that write, one after the other on one file, each cut off at some moment or ended.
use Rattle.std.specs.Prelude.{◌≡◌, ◌⊎◌, ◌<◌, ◌≤◌, ℕ, ◌+◌, List, [], ◌∷◌, length, slice_get, Some}
use Rattle.rio_host.specs.{Host.{View}, Source.{Input}}
use Rattle.rio_machine.specs.State.{State}
use Rattle.rio_step.specs.Runs.{saved_of}
use Rattle.rio_state.specs.{Left.{ReadsClosedUnlessOpen}, Reads.{ReadsAsState}}
use Rattle.rio_session.specs.Opening.{OpensWith}
use Rattle.rootio.specs.{Headline.{HasSaid, IsPrinted, IsStopOf, ScriptRun, states}, Writing.{Beginning, BeginsRun, IsInputOf, IsListingOf, run_of_work, target_of}, declared.words.Work.{Work}}

-- one call: its verb, what it begins with, the image that is left of the file, and what was said up to that moment
pub record Call : Type 0 where
  pub work : Work
  pub begins : Beginning
  pub image : List ℕ
  pub said : List ℕ

-- the call left the file as it was and said nothing
pub record IsUnbegun (c : Call) : Type 0 where
  pub image : c.image ≡ c.begins.file
  pub said : c.said ≡ c.begins.text

-- A call on this file, which isn't made yet or reads as a state. It left the file as it was and said nothing, or the image is one of a
-- moment of its run.
pub record IsCallOn (file : List ℕ) (c : Call) : Type 0 where
  pub file_is : c.begins.file ≡ file
  pub reads : ReadsAsState c.begins.file c.begins.state
  pub begins : OpensWith (target_of c.work).name (target_of c.work).datime c.begins.file c.begins.links
  pub listing : IsListingOf c.work c.begins.links c.begins.listing
  pub left : IsUnbegun c ⊎ IsStopOf (run_of_work c.work c.begins) c.begins.file c.begins.text c.image c.said

-- whatever a stop at some moment since the start of a call may leave is that of a call on its file
abbrev pub LeavesCalls : Work → View → View → Input → Type 0
LeavesCalls work old new before = (b : Beginning) → BeginsRun work b old → IsInputOf work before b.input
    → (image said : List ℕ) → new.left_since old.now image said → IsCallOn b.file (record { work = work; begins = b; image = image; said = said })

-- ---- one call after the other

-- each call is one on the image that the call before it left, and this is the last image
abbrev pub AreCalls : List ℕ → List Call → List ℕ → Type 0
AreCalls file [] image = file ≡ image
AreCalls file (c ∷ calls) image = IsCallOn file c × AreCalls c.image calls image

-- the call's run from a state on
abbrev pub run_at : Call → State → ScriptRun
run_at c m = run_of_work c.work (record c.begins { state = m })

-- A call leads from one state to that after the first k of its commands and closing saves, without pending rows. They hold each command whose
-- reply was said whole, and of the others at most the next one.
pub record HoldsPrefixOf (c : Call) (m n : State) : Type 0 where
  pub j : ℕ
  pub k : ℕ
  pub replies : HasSaid (run_at c m) c.begins.text c.said j
  pub state : State
  pub state_is : slice_get (states (run_at c m)) k ≡ Some state
  pub saved : n ≡ saved_of state
  pub holds : j ≤ k
  pub next : IsPrinted (run_at c m) → j < length (run_at c m).commands → k ≤ j + 1

-- A call leads to the state as which its image reads: that of a prefix, or that of before, where it said nothing. By the key list an image that isn't
-- marked as open reads as that state too, if the file before the call did so, or was marked as open.
pub record LeadsTo (c : Call) (m n : State) : Type 0 where
  pub reads : ReadsAsState c.image n
  pub closed : ReadsClosedUnlessOpen c.begins.file m → ReadsClosedUnlessOpen c.image n
  pub prefix : (IsUnbegun c × (n ≡ m)) ⊎ HoldsPrefixOf c m n

-- and so on, call by call
abbrev pub AllLeadTo : List Call → State → State → Type 0
AllLeadTo [] m n = n ≡ m
AllLeadTo (c ∷ calls) m n = (next : State) × LeadsTo c m next × AllLeadTo calls next n

-- After any list of calls the last image reads as the state to which they lead, one after the other, by the walk, and unless it is marked as open
-- by the key list too.
abbrev pub CallsInARow : Type 0
CallsInARow = (file image : List ℕ) (m : State) (calls : List Call) → ReadsAsState file m → AreCalls file calls image
    → (n : State) × ReadsAsState image n × (ReadsClosedUnlessOpen file m → ReadsClosedUnlessOpen image n) × AllLeadTo calls m n
