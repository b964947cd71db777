-- What the baskets of a tree that is being filled hold.
use Rattle.std.specs.Prelude.{◌≡◌, ℕ, ◌+◌, List, [], ◌∷◌, ◌++◌, ◌≤◌, length, map, slice_get, true, false, not, nat_le, Some, IsTrue}
use Rattle.std.specs.List.{list_all}
use Rattle.rio_key.specs.{OpenBasket.{entries_length}, Cut.{all_entries, cut_into_baskets, cut_of, firsts_from}}
use Rattle.std.specs.Option.{option_map_or}
use Rattle.rio_tree.specs.declared.basket_at.BasketAt.{BasketAt}
use Rattle.rio_fill.specs.{Fill.{BranchFill, branch_added, branch_put, count_before, full_flags, has_flag, has_no_entries, is_full_for, open_flags, takes}, Prepare.{is_sized}, Room.{branch_reserved, may_be_added}}

abbrev pub firsts_of : List BasketAt → List ℕ
firsts_of ats = map (λ at. at.first) ats

-- A branch of a tree that was saved with so many entries and these baskets. Its pending entries are cut into baskets: all but
-- the last were put, and the last is the open one.
pub record IsCut (saved : ℕ) (before : List BasketAt) (pending : List (List ℕ)) (b : BranchFill) : Type 0 where
  pub put : firsts_of b.baskets ≡ firsts_of before ++ firsts_from saved (cut_of pending).put
  pub open_entries : b.entries ≡ (cut_of pending).rest

-- It stays so with one entry more, if the open basket is put first exactly where it doesn't take the entry.
abbrev pub EntryKeepsCut : Type 0
EntryKeepsCut = (saved : ℕ) (before : List BasketAt) (pending : List (List ℕ)) (b : BranchFill) (entry : List ℕ) → IsCut saved before pending b
    → (takes b entry ≡ true → IsCut saved before (pending ++ entry ∷ []) (branch_added b entry))
    × ((at : BasketAt) → takes b entry ≡ false → at.first ≡ count_before (saved + length pending) b → IsCut saved before (pending ++ entry ∷ []) (branch_added (branch_put at b) entry))

-- A branch without pending entries.
abbrev pub FreshIsCut : Type 0
FreshIsCut = (saved : ℕ) (b : BranchFill) → b.entries ≡ [] → IsCut saved b.baskets [] b

-- Once the open basket is put, where it has entries, the baskets are those of before, and behind them the pending entries cut
-- into baskets, in order.
abbrev pub SaveListsBaskets : Type 0
SaveListsBaskets = (saved : ℕ) (before : List BasketAt) (pending : List (List ℕ)) (b : BranchFill) → IsCut saved before pending b
    → (b.entries ≡ [] → firsts_of b.baskets ≡ firsts_of before ++ firsts_from saved (cut_into_baskets pending))
    × ((at : BasketAt) → has_no_entries b ≡ false → at.first ≡ count_before (saved + length pending) b → firsts_of (b.baskets ++ at ∷ []) ≡ firsts_of before ++ firsts_from saved (cut_into_baskets pending))

-- All baskets together hold the entries in their order.
abbrev pub CutHoldsAll : Type 0
CutHoldsAll = (entries : List (List ℕ)) → all_entries (cut_into_baskets entries) ≡ entries

-- A flag is set exactly where the open basket of the branch is put before its entry of the row comes.
abbrev pub FlagsNameBaskets : Type 0
FlagsNameBaskets = (branches : List BranchFill) (entries : List (List ℕ)) (k : ℕ)
    → has_flag (full_flags branches entries) k ≡ option_map_or (λ b. is_full_for b (slice_get entries k)) (slice_get branches k) false

-- And of the others: exactly where the open basket has entries.
abbrev pub OpenFlagsNameBaskets : Type 0
OpenFlagsNameBaskets = (branches : List BranchFill) (k : ℕ) → has_flag (open_flags branches) k ≡ option_map_or (λ b. not (has_no_entries b)) (slice_get branches k) false

-- ---- room

-- An entry for which room was made may be added, once the open basket was put where it doesn't take the entry.
abbrev pub RowMayBeAdded : Type 0
RowMayBeAdded = (b : BranchFill) (entry : List ℕ) → is_sized b.def.shape entry ≡ true
    → (takes b entry ≡ true → IsTrue (may_be_added (branch_reserved b (Some entry)) entry))
    × ((at : BasketAt) → takes b entry ≡ false → IsTrue (may_be_added (branch_put at (branch_reserved b (Some entry))) entry))

-- ---- limits

-- at most 8,192 entries, and no more bytes than the longest entry may have
pub record IsSmall (entries : List (List ℕ)) : Type 0 where
  pub count : length entries ≤ 8192
  pub bytes : entries_length entries ≤ 16777216

-- No entry has more than 16,777,216 bytes, and so no open basket has.
abbrev pub OpenBasketStaysSmall : Type 0
OpenBasketStaysSmall = (entries : List (List ℕ)) → list_all (λ entry. nat_le (length entry) 16777216) entries ≡ true → IsSmall (cut_of entries).rest
