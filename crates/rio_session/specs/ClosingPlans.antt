-- What is planned for a close: the saves that are due, one after the other on a copy of the chain, and the records of the close behind them.
use Rattle.std.specs.{Prelude.{◌≡◌, ◌<◌, ◌^◌, ◌==◌, ◌||◌, ◌&&◌, ◌≤◌, ℕ, ◌++◌, nat_lt, List, map, Bool, true, false, Option, Some, None}, List.{All, find, list_all}, Option.{option_map_or}}
use Rattle.rio_key.specs.declared.head.KeyHead.{KeyHead}
use Rattle.rio_dir.specs.Table.{head_of}
use Rattle.rio_chain.specs.{Adjoining.{AreSegments}, Placing.{end_after, places_of, space_of}, declared.segment.Segment.{Segment}}
use Rattle.rio_machine.specs.Limits.{cycle_limit}
use Rattle.rio_state.specs.KeyedRecords.{is_tree_key}
use Rattle.rio_close.specs.{Written.{AreCloseRecords}, declared.parts.CloseRecords.{CloseRecords}}
use Rattle.rio_recover.specs.Whole.{HoldsDirectory}
use Rattle.rio_session.specs.{Closes.{open_file}, Due.{IsBranchSound, IsClosableWith}, Fillings.{closing}, Fills.{AreNamesOrdered, FilledTree, bare_tree, is_tree_of}}
use Rattle.rio_session.specs.{SavePlans.{saving_now}, SessionState.{SessionState}, TreeWorks.{AreStepsOf}, declared.steps.Step.{Step}}

-- ---- one save

-- a tree without pending rows, or one whose header isn't at its last cycle
abbrev pub has_cycle : List KeyHead → FilledTree → Bool
has_cycle heads t = (t.fill.pending == 0) || option_map_or (λ k. nat_lt k.cycle cycle_limit) (head_of t.name None heads) false

-- it is the key of a tree's header, which isn't at its last cycle
abbrev pub has_next : KeyHead → Bool
has_next k = is_tree_key k && nat_lt k.cycle cycle_limit

-- such a key, and the one of this name that counts
pub record IsKeyBefore (heads : List KeyHead) (name : List ℕ) (k : KeyHead) : Type 0 where
  pub first : head_of name None heads ≡ Some k
  pub next : has_next k ≡ true

-- The places of the records of its save, whichever header it has: those of the rule, and END stays within its limit.
abbrev pub ArePlacesOf : List Segment → FilledTree → List ℕ → Type 0
ArePlacesOf segments t places =
    (s : SessionState) (k : KeyHead) → s.segments ≡ segments → All (IsBranchSound t.fill.saved t.fill.pending) t.fill.branches
    → (places ≡ places_of (saving_now s t k).lengths (space_of s.segments)) × (end_after (saving_now s t k).lengths (space_of s.segments) ≤ 1999999996)

-- These segments and keys are kept with the tree, which has pending rows, and there is room for what a close needs.
pub record CanPlanTree (s : SessionState) (segments : List Segment) (heads : List KeyHead) (t : FilledTree) (datime : ℕ) : Type 0 where
  pub segments_are : s.segments ≡ segments
  pub heads_are : s.heads ≡ heads
  pub datime_is : s.datime ≡ datime
  pub there : find (is_tree_of t.name) s.trees ≡ Some (bare_tree t)
  pub due : (t.fill.pending == 0) ≡ false
  pub ordered : AreNamesOrdered s.trees
  pub closable : IsClosableWith s.segments s.heads s.trees s.info s.name

-- The save of the tree is planned: segments and keys behind it, and its steps. It can be closed then.
pub record IsTreePlanned (s : SessionState) (t : FilledTree) (segments : List Segment) (heads : List KeyHead) (steps : List Step) : Type 0 where
  pub key : KeyHead
  pub first : head_of t.name None s.heads ≡ Some key
  pub steps_are : AreStepsOf (saving_now s (bare_tree t) key) s.segments steps
  pub segments_are : segments ≡ (saving_now s (bare_tree t) key).kept.segments
  pub heads_are : heads ≡ (saving_now s (bare_tree t) key).kept.heads
  pub closable : let kept = (saving_now s (bare_tree t) key).kept in IsClosableWith kept.segments kept.heads kept.trees s.info s.name

-- the steps behind others
abbrev pub IsPlannedBehind : SessionState → FilledTree → List Step → List Segment → List KeyHead → List Step → Type 0
IsPlannedBehind s t before segments heads steps = (more : List Step) × (steps ≡ before ++ more) × IsTreePlanned s t segments heads more

-- ---- all saves

-- These segments, keys and trees are kept, and there is room for what a close needs.
pub record CanPlanSaves (s : SessionState) (segments : List Segment) (heads : List KeyHead) (trees : List FilledTree) (datime : ℕ) : Type 0 where
  pub segments_are : s.segments ≡ segments
  pub heads_are : s.heads ≡ heads
  pub trees_are : s.trees ≡ map bare_tree trees
  pub datime_is : s.datime ≡ datime
  pub ordered : AreNamesOrdered s.trees
  pub closable : IsClosableWith s.segments s.heads s.trees s.info s.name

-- All saves that are due are planned: segments and keys behind them, and their steps. Nothing is pending then, and it can be closed.
pub record ArePlannedSaves (s : SessionState) (segments : List Segment) (heads : List KeyHead) (steps : List Step) : Type 0 where
  pub segments_are : segments ≡ (closing s).kept.segments
  pub heads_are : heads ≡ (closing s).kept.heads
  pub steps_are : AreStepsOf (closing s) s.segments steps
  pub none_left : list_all (λ t. t.fill.pending == 0) (closing s).kept.trees ≡ true
  pub closable : let kept = (closing s).kept in IsClosableWith kept.segments kept.heads kept.trees kept.info kept.name

-- ---- the whole close

-- what a close is planned from
pub record CanPlanClose (s : SessionState) (segments : List Segment) (heads : List KeyHead) (trees : List FilledTree) (info : Option KeyHead) (name : List ℕ) (nbytes_name datime : ℕ) : Type 0 where
  pub saves : CanPlanSaves s segments heads trees datime
  pub info_is : s.info ≡ info
  pub name_is : s.name ≡ name
  pub nbytes_is : s.nbytes_name ≡ nbytes_name

-- The steps make the saves that are due, of trees that have another cycle, and these are the records of the close behind them.
pub record IsPlannedClose (s : SessionState) (steps : List Step) (records : CloseRecords) : Type 0 where
  pub cycles : list_all (has_cycle s.heads) s.trees ≡ true
  pub soon : s.datime < 2 ^ 32
  pub before : IsClosableWith s.segments s.heads s.trees s.info s.name
  pub steps_are : AreStepsOf (closing s) s.segments steps
  pub made : AreCloseRecords (open_file (closing s).kept) records
  pub none_left : list_all (λ t. t.fill.pending == 0) (closing s).kept.trees ≡ true
  pub closable : let kept = (closing s).kept in IsClosableWith kept.segments kept.heads kept.trees kept.info kept.name

-- in these segments, with the directory record within the first record
pub record CanBeWritten (s : SessionState) (segments : List Segment) (steps : List Step) (records : CloseRecords) : Type 0 where
  pub same : s.segments ≡ segments
  pub form : AreSegments s.segments
  pub planned : IsPlannedClose s steps records
  pub directory : HoldsDirectory s.nbytes_name s.segments
