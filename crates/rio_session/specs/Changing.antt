-- What it is to change the records of a file, one change after the other, and to print a text then.
use Rattle.std.specs.Prelude.{◌≡◌, ◌⊎◌, ◌<◌, ◌≤◌, ℕ, true, List, [], ◌++◌, length, take, Some, Result, Ok, Err}
use Rattle.rio_host.specs.Host.{Any, Becomes, Elapses, IsQuiet, Longer, LongerByPart, View}
use Rattle.rio_chain.specs.{Becoming.{ChainBecomes}, Chains.{HasChain}, Segments.{IsChain, Link}, Stops.{KeepsFront}, declared.segment.Segment.{Segment}}
use Rattle.rio_session.specs.{Causes.{DiskRose, NoCountRose, SayRose}, Kept.{LinksChange, all_done}, Replying.{Replies, printed_of}, Says.{NotDone}, SessionState.{SessionState, with_cost}}
use Rattle.rio_session.specs.declared.fault.SessionFault.{SessionFault, TheVariants.{HostFault, SayFault, NoMemory}}

-- The changes, what is kept after them but for the cost, what is printed then, and the cost.
pub record Changing : Type 0 where
  pub changes : List LinksChange
  pub kept : SessionState
  pub text : List ℕ
  pub cost : ℕ

-- the links after the first k changes
abbrev pub links_at : Changing → ℕ → List Link → List Link
links_at p k links = all_done (take k p.changes) links

-- before each of the first k changes some file had the links that there were then
abbrev pub IsReached : Changing → ℕ → List Link → Type 0
IsReached p k links = (j : ℕ) → j < k → (image : List ℕ) × IsChain (links_at p j links) image

-- An image of a file of these links: after some of the changes, with the text from before; or after all of them, with a prefix of what
-- is printed.
pub record IsBetween (p : Changing) (file said : List ℕ) (links : List Link) (image spoken : List ℕ) : Type 0 where
  pub k : ℕ
  pub within : k ≤ length p.changes
  pub chain : IsChain (links_at p k links) image
  pub reached : IsReached p k links
  pub spoken_is : (spoken ≡ said) ⊎ ((k ≡ length p.changes) × ((n : ℕ) × (spoken ≡ said ++ take n p.text)))
  pub front : KeepsFront file image

-- the crash images meanwhile
abbrev pub ChangesInTime : Changing → View → View → SessionState → Type 0
ChangesInTime p old new before = (file said : List ℕ) (links : List Link) → old.holds ≡ Some file → old.said ≡ Some said → HasChain links before.segments file
    → Elapses old new (IsBetween p file said links)

-- The same changes, where the text is printed or omitted.
abbrev pub printing : Replies → Changing → Changing
printing replies p = record p { text = printed_of replies p.text }

-- each change was reached
abbrev pub ReachesAll : Changing → View → SessionState → Type 0
ReachesAll p old before = (file : List ℕ) (links : List Link) → old.holds ≡ Some file → HasChain links before.segments file → IsReached p (length p.changes) links

-- The first i changes are done, in these segments, and nothing was printed.
pub record IsUnderway (p : Changing) (i : ℕ) (old now : View) (before : SessionState) (segments : List Segment) : Type 0 where
  pub within : i ≤ length p.changes
  pub time : ChangesInTime p old now before
  pub reached : (file : List ℕ) (links : List Link) → old.holds ≡ Some file → HasChain links before.segments file → IsReached p i links
  pub holds : ChainBecomes old now before.segments segments (links_at p i)
  pub told : Becomes Any old.holds now.holds
  pub said : now.said ≡ old.said
  pub faults : NoCountRose old now

-- all is changed and the text printed
pub record ChangedAndSaid (p : Changing) (old new : View) (before after : SessionState) : Type 0 where
  pub time : ChangesInTime p old new before
  pub reached : ReachesAll p old before
  pub holds : ChainBecomes old new before.segments after.segments (all_done p.changes)
  pub says : Becomes (Longer p.text) old.said new.said
  pub quiet : IsQuiet new
  pub told : Becomes Any old.holds new.holds
  pub faults : NoCountRose old new
  pub kept : after ≡ with_cost p.cost p.kept

-- a change failed
pub record NotChanged (p : Changing) (old new : View) (before after : SessionState) : Type 0 where
  pub time : ChangesInTime p old new before
  pub told : Becomes Any old.holds new.holds
  pub said : new.said ≡ old.said
  pub faults : DiskRose old new
  pub failed : after.failed ≡ true

-- all is changed, and the text could not be printed
pub record ChangedNotSaid (p : Changing) (old new : View) (before after : SessionState) : Type 0 where
  pub time : ChangesInTime p old new before
  pub reached : ReachesAll p old before
  pub holds : ChainBecomes old new before.segments p.kept.segments (all_done p.changes)
  pub quiet : IsQuiet new
  pub told : Becomes Any old.holds new.holds
  pub says : Becomes (LongerByPart p.text) old.said new.said
  pub some : p.text ≡ [] → ⊥
  pub faults : SayRose old new
  pub failed : after.failed ≡ true

-- All is changed and the text printed; or why not. Without memory nothing was begun.
abbrev pub ChangesFile : {X : Type 0} → Changing → View → View → SessionState → SessionState → Result X SessionFault → Type 0
ChangesFile p old new before after (Ok x) = ChangedAndSaid p old new before after
ChangesFile p old new before after (Err HostFault) = NotChanged p old new before after
ChangesFile p old new before after (Err SayFault) = ChangedNotSaid p old new before after
ChangesFile p old new before after (Err NoMemory) = NotDone old new before after
