-- Which branches of a tree aren't read, by its header and by the file, and why.
use Rattle.std.specs.{Prelude.{ℕ, List, [], ◌∷◌, ◌++◌, Option, Some, None, is_some, Bool, if◌then◌else◌}, List.{list_all, range_with_len}, Option.{option_or}}
use Rattle.rio_format.specs.declared.class.ClassDef.{ClassDef}
use Rattle.rio_tree.specs.declared.head.Branch.{Branch}
use Rattle.rio_tree.specs.declared.refusal.BranchRefusal.{BranchRefusal, TheVariants.{BranchClass, SubBranches, EmbeddedBasket, LeafClass, NoCounter, EntryCount, BadBasketList, Compressed, BadBasket, BadEntry}}
use Rattle.rio_entry.specs.{Counters.{counters_are_read}, BranchRows.{values_of_branch, values_at_entry}, StoredEntries.{baskets_refusal}}

-- The refusals that come no later than NoCounter: where the header tells one of them, nothing else of the branch is tested.
abbrev pub refused_first : Option BranchRefusal → Option BranchRefusal
refused_first None = None
refused_first (Some BranchClass) = Some BranchClass
refused_first (Some SubBranches) = Some SubBranches
refused_first (Some EmbeddedBasket) = Some EmbeddedBasket
refused_first (Some LeafClass) = Some LeafClass
refused_first (Some NoCounter) = Some NoCounter
refused_first (Some EntryCount) = None
refused_first (Some BadBasketList) = None
refused_first (Some Compressed) = None
refused_first (Some BadBasket) = None
refused_first (Some BadEntry) = None

abbrev pub refused_unless : Bool → BranchRefusal → Option BranchRefusal
refused_unless holds refusal = if holds then None else Some refusal

-- a branch is read at an entry, behind these
abbrev pub is_entry_read : List ℕ → List ClassDef → List Branch → Branch → ℕ → Bool
is_entry_read file classes before b e = is_some (values_of_branch file classes e before (values_at_entry file classes e before) b)

-- and at each of so many entries
abbrev pub entries_are_read : List ℕ → List ClassDef → ℕ → List Branch → Branch → Bool
entries_are_read file classes entries before b = list_all (is_entry_read file classes before b) (range_with_len 0 entries)

-- why the file doesn't give the branch: its baskets, or an entry
abbrev pub file_refusal : List ℕ → List ClassDef → ℕ → List Branch → Branch → Option BranchRefusal
file_refusal file classes entries before b =
    option_or (baskets_refusal file b) (refused_unless (entries_are_read file classes entries before b) BadEntry)

-- Why a branch of a tree with so many entries isn't read, behind these, which are refused so: the first of the refusals, in their
-- order, that holds. A counter must be in a branch that is read, whatever tells that it isn't.
unfoldable pub branch_refusal : List ℕ → List ClassDef → ℕ → List Branch → List (Option BranchRefusal) → Branch → Option BranchRefusal
branch_refusal file classes entries before refused b =
    option_or (refused_first b.refused)
    (option_or (refused_unless (counters_are_read refused b) NoCounter)
    (option_or b.refused (file_refusal file classes entries before b)))

-- why each branch isn't read, behind others that are refused so
abbrev pub refusals_behind : List ℕ → List ClassDef → ℕ → List Branch → List (Option BranchRefusal) → List Branch → List (Option BranchRefusal)
refusals_behind file classes entries before refused [] = refused
refusals_behind file classes entries before refused (b ∷ bs) =
    refusals_behind file classes entries (before ++ b ∷ []) (refused ++ branch_refusal file classes entries before refused b ∷ []) bs

-- why each branch of a tree with so many entries isn't read, in order
unfoldable pub refusals_of : List ℕ → List ClassDef → ℕ → List Branch → List (Option BranchRefusal)
refusals_of file classes entries branches = refusals_behind file classes entries [] [] branches
