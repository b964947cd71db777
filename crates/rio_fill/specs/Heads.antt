-- Which trees can be filled, and the header of a save.
use Rattle.std.specs.Prelude.{◌≡◌, ℕ, ◌≤◌, List, [], ◌∷◌, ◌++◌, drop, take, length, Bool, true, false, ◌==◌, ◌&&◌, ◌||◌, nat_lt, None, IsTrue, if◌then◌else◌}
use Rattle.std.specs.List.{All, list_all}
use Rattle.rio_leaf.specs.{Stated.{are_stated_branches}, declared.branch.BranchDef.{BranchDef}}
use Rattle.rio_machine.specs.Limits.{branch_limit}
use Rattle.rio_tree.specs.{Header.{has_offsets}, Refusals.{are_in_order}, WrittenLaws.{stated_defs}}
use Rattle.rio_tree.specs.{declared.basket_at.BasketAt.{BasketAt}, declared.head.Branch.{Branch}, declared.head.TreeHead.{TreeHead}}
use Rattle.rio_fill.specs.Fill.{BranchFill, TreeFill, count_before, entry_count, has_no_entries}

-- ---- trees that can be filled

-- A branch that is read, with all entries of the tree. Its baskets begin at entry 0, and each before the entries end.
pub record BranchCanBeFilled (entries : ℕ) (b : Branch) : Type 0 where
  pub refused : b.refused ≡ None
  pub entries_as_tree : b.entries ≡ entries
  pub offsets_as_shape : b.offsets ≡ has_offsets b.def.shape
  pub in_order : IsTrue (are_in_order entries b.baskets)
  pub before_end : IsTrue (list_all (λ at. nat_lt at.first entries) b.baskets)

-- branches as a line of the script declares them
pub record AreFillable (defs : List BranchDef) : Type 0 where
  pub few : length defs ≤ branch_limit
  pub stated : IsTrue (are_stated_branches defs)

pub record CanBeFilled (head : TreeHead) : Type 0 where
  pub defs : AreFillable (stated_defs head.branches)
  pub branches : All (BranchCanBeFilled head.entries) head.branches

-- ---- the header of a save

-- one place for an open basket that has entries
abbrev pub places_wanted : BranchFill → ℕ
places_wanted b = if has_no_entries b then 0 else 1

-- the first of them names this entry
abbrev pub begins_at : ℕ → List BasketAt → Bool
begins_at first [] = false
begins_at first (at ∷ ats) = at.first == first

-- Places for the open baskets that aren't empty, one each, in order of branches, in a tree of so many entries. Each names the
-- first entry of its basket.
abbrev pub are_places : ℕ → List BranchFill → List BasketAt → Bool
are_places count [] [] = true
are_places count [] (at ∷ ats) = false
are_places count (b ∷ bs) ats =
    (has_no_entries b || begins_at (count_before count b) ats) && are_places count bs (drop (places_wanted b) ats)

-- what the header of a tree of so many entries says of a branch that has these baskets besides
abbrev pub saved_branch : ℕ → BranchFill → List BasketAt → Branch
saved_branch count b ats = record {
  def = b.def;
  class_version = b.class_version;
  entries = count;
  offsets = has_offsets b.def.shape;
  baskets = b.baskets ++ ats;
  counted_by = b.counted_by;
  refused = None;
}

abbrev pub saved_branches : ℕ → List BranchFill → List BasketAt → List Branch
saved_branches count [] ats = []
saved_branches count (b ∷ bs) ats =
    saved_branch count b (take (places_wanted b) ats) ∷ saved_branches count bs (drop (places_wanted b) ats)

-- All entries, and behind the baskets that each branch had those that were put since and the open one.
abbrev pub saved_head : TreeFill → List BasketAt → TreeHead
saved_head t ats = record { entries = entry_count t; branches = saved_branches (entry_count t) t.branches ats }
