-- What a close needs of a session with pending rows: told by the open baskets and by how many baskets were written, so without the rows
-- that were cut off.
use Rattle.std.specs.Prelude.{◌≡◌, ◌≤◌, ◌<◌, ◌^◌, ℕ, ◌+◌, List, [], ◌∷◌, ◌++◌, codes, length, map, Bool, true, false, Option, Some, None, ◌==◌, not, nat_lt}
use Rattle.std.specs.List.{All, flat_map, list_all, list_any, sum_by}
use Rattle.rio_key.specs.{declared.head.KeyHead.{KeyHead}, Cut.{basket_with}}
use Rattle.rio_chain.specs.{Placing.{file_end, record_count}, declared.segment.Segment.{Segment}}
use Rattle.rio_machine.specs.Limits.{head_length}
use Rattle.rio_tree.specs.{HeaderLength.{header_length}, Refusals.{are_in_order}, declared.basket_at.BasketAt.{BasketAt}}
use Rattle.rio_state.specs.{Closing.{KeptRecords, close_need, end_limit, padded_length}, TreeLengths.{BasketLengths, TreeLengths, basket_lengths, save_lengths}}
use Rattle.rio_fill.specs.Fill.{BranchFill, TreeFill, count_before, defs_of}
use Rattle.rio_recover.specs.Closable.{IsClosable}
use Rattle.rio_session.specs.{Fills.{FilledTree, places_of_trees}, declared.open_tree.Due.{Due}}

-- ---- a tree

-- the open baskets that have entries, as a save writes them
abbrev pub open_lengths : List ℕ → List BranchFill → List BasketLengths
open_lengths tree branches = flat_map (λ b. map (basket_lengths tree b.def) (basket_with b.entries)) branches

-- how many baskets were written, and how many open ones have entries
abbrev pub written_count : List BranchFill → ℕ
written_count branches = sum_by (λ b. length b.baskets) branches

-- the lengths of a save: what a close writes of the tree
abbrev pub lengths_of_fill : List ℕ → TreeFill → TreeLengths
lengths_of_fill name t =
    let baskets = open_lengths name t.branches in
    record {
      pending = not (t.pending == 0);
      header = head_length (codes "TTree") name + header_length name (defs_of t.branches) (written_count t.branches + length baskets);
      baskets = baskets;
    }

abbrev pub lengths_of : List FilledTree → List TreeLengths
lengths_of trees = map (λ t. lengths_of_fill t.name t.fill) trees

-- ---- sums

-- What a session counts, tree by tree, so that no command goes over the others: the records of the saves that are due, each with its zero
-- bytes, and how many open baskets have entries.
abbrev pub due_of_fill : List ℕ → TreeFill → Due
due_of_fill name t =
    let lengths = lengths_of_fill name t in
    record { bytes = sum_by padded_length (save_lengths lengths); baskets = length lengths.baskets }

abbrev pub due_of : List FilledTree → Due
due_of trees = record {
  bytes = sum_by (λ t. (due_of_fill t.name t.fill).bytes) trees;
  baskets = sum_by (λ t. (due_of_fill t.name t.fill).baskets) trees;
}

-- ---- places

-- none of the places stands twice
abbrev pub AreApart : List ℕ → Type 0
AreApart [] = Unit {0}
AreApart (p ∷ places) = (list_any (λ q. q == p) places ≡ false) × AreApart places

-- where the class list stands, if there is one
abbrev pub key_place : Option KeyHead → List ℕ
key_place None = []
key_place (Some h) = h.seek ∷ []

-- ---- the whole

-- a file of this name that keeps records with these keys, so many in all, and these trees
abbrev pub kept_records : List ℕ → List KeyHead → ℕ → List FilledTree → KeptRecords
kept_records name heads count trees = record { name = name; heads = heads; count = count; trees = lengths_of trees }

-- what a close needs of what is kept, with so many records
abbrev pub need_with : List ℕ → List KeyHead → ℕ → List FilledTree → ℕ
need_with name heads count trees = close_need (kept_records name heads count trees)

-- it begins before the open basket, in a tree of so many entries
abbrev pub begins_before : ℕ → BranchFill → BasketAt → Bool
begins_before count b at = nat_lt at.first (count_before count b)

-- A tree with pending rows can be saved: its open baskets are of entries that are pending, and those that were written begin in order,
-- before them. Without pending rows no basket is open.
pub record IsBranchSound (saved pending : ℕ) (b : BranchFill) : Type 0 where
  pub few : length b.entries ≤ pending
  pub begins : list_all (λ at. begins_before (saved + pending) b at) b.baskets ≡ true
  pub order : are_in_order (count_before (saved + pending) b) b.baskets ≡ true
  pub small : saved + pending < 2 ^ 63

-- What is kept can be closed: all of its records have keys or are baskets, and there is room for the saves that are due and for a close.
pub record IsClosableWith (segments : List Segment) (heads : List KeyHead) (trees : List FilledTree) (info : Option KeyHead) (name : List ℕ) : Type 0 where
  pub closable : IsClosable segments heads info (places_of_trees trees) name
  pub room : file_end segments + need_with name heads (record_count segments) trees ≤ end_limit
  pub sound : All (λ t. All (IsBranchSound t.fill.saved t.fill.pending) t.fill.branches) trees
  -- no two of the records that are kept begin at one place: so after the release of one the others are still there
  pub apart : AreApart (key_place info ++ map (λ h. h.seek) heads ++ places_of_trees trees)
