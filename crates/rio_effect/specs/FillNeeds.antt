-- What a fill makes of what a file keeps: the baskets that it puts, and one pending row more.
use Rattle.std.specs.{Prelude.{◌≡◌, ◌≤◌, ℕ, ◌+◌, List, length, None, Some}, FinMap.{get}}
use Rattle.rio_chain.specs.Segments.{IsChain, Link}
use Rattle.rio_machine.specs.{State.{Row, State, Tree}, declared.command.Command.TheVariants.{Fill}}
use Rattle.rio_state.specs.{Closing.{KeptRecords, held_with, kept_with}, KeyedRecords.{keyed_records}, Reads.{AreRecordsOf}, TreeLengths.{pending_in}}
use Rattle.rio_step.specs.{Costs.{cost_of}, Refusing.{refusal_of}, Runs.{saved_of}, Step.{state_behind}, Storable.{IsFillable}}
use Rattle.rio_effect.specs.{AllItems.{AreAllItems}, BasketRuns.{CanAllBePut}, Changes.{all_changed}, Garbage.{ArePassed}, TreeChanges.{changes_of_fill, full_of_tree}}

-- The file has these links, whose records stand for the state without its pending rows, and in which no header is outdated. The state has this
-- tree, and each basket that the fill puts can be put; before each of them some file has the links that there are then.
pub record CanBeFilled (datime : ℕ) (file : List ℕ) (links : List Link) (m : State) (name : List ℕ) (row : Row) (t : Tree) : Type 0 where
  pub chain : IsChain links file
  pub records : AreRecordsOf (keyed_records links) (saved_of m)
  pub items : AreAllItems links
  pub fillable : IsFillable m
  pub tree : get m.trees name ≡ Some t
  pub taken : refusal_of m (Fill name row) None ≡ None
  pub put : CanAllBePut datime name links t.branches (full_of_tree m row t)
  pub passed : ArePassed links (changes_of_fill datime m name row t) (length (changes_of_fill datime m name row t))

-- the baskets that were put are kept more
pub record KeepsMoreRecords (old new : KeptRecords) (more : ℕ) : Type 0 where
  pub name : new.name ≡ old.name
  pub heads : new.heads ≡ old.heads
  pub count : new.count ≡ old.count + more

abbrev pub FillKeepsBaskets : Type 0
FillKeepsBaskets = (datime : ℕ) (file : List ℕ) (links : List Link) (m : State) (name : List ℕ) (row : Row) (t : Tree) → CanBeFilled datime file links m name row t
    → KeepsMoreRecords (kept_with (pending_in m) links) (kept_with (pending_in (state_behind m (Fill name row))) (all_changed links (changes_of_fill datime m name row t)))
    (length (changes_of_fill datime m name row t))

-- the file holds no more than the fill costs
abbrev pub FillHeldGrows : Type 0
FillHeldGrows = (datime : ℕ) (file : List ℕ) (links : List Link) (m : State) (name : List ℕ) (row : Row) (t : Tree) → CanBeFilled datime file links m name row t
    → held_with (pending_in (state_behind m (Fill name row))) (all_changed links (changes_of_fill datime m name row t)) ≤ held_with (pending_in m) links + cost_of m (Fill name row)

-- and stands for the same, but for the pending rows: with the baskets that were put the records stand for the state behind the fill
abbrev pub FillSavesNothing : Type 0
FillSavesNothing = (m : State) (name : List ℕ) (row : Row) → saved_of (state_behind m (Fill name row)) ≡ saved_of m
