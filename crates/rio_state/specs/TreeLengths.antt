-- What a close writes of trees, in lengths: the open baskets of rows that are pending, and the next headers.
--
-- Which rows are pending is in no record: it is handed in, by name. Their entries, cut into baskets as they came, tell which baskets
-- were put since the last save and which are open; the header that counts tells the others. So what a close needs, as a recovery
-- finds it, as a session keeps it and as the close itself writes it, is one function of a file's records and the pending rows.
use Rattle.std.specs.{Prelude.{ℕ, ◌+◌, List, [], ◌∷◌, ◌++◌, drop, length, map, min, codes, slice_get, Bool, ◌==◌, not, unwrap_or, if◌then◌else◌}, FinMap.{get}, List.{filter_map, sum_by}}
use Rattle.std.specs.Option.{option_map, option_map_or}
use Rattle.rio_leaf.specs.declared.branch.BranchDef.{BranchDef}
use Rattle.rio_format.specs.declared.class.ClassDef.{ClassDef}
use Rattle.rio_machine.specs.{Limits.{head_length}, Rows.{entries_of}, State.{Row, State}}
use Rattle.rio_key.specs.{Cut.{Cut, baskets_of_cut, basket_with, cut_of}, OpenBasket.{entries_length}, BasketRecord.{basket_data, basket_key_length}}
use Rattle.rio_tree.specs.{Header.{has_offsets}, HeaderLength.{basket_count, header_length}, WrittenLaws.{stated_defs}, declared.head.TreeHead.{TreeHead}}
use Rattle.rio_state.specs.{Contents.{FileClasses}, KeyedRecords.{KeyedRecord}, Trees.{header_in}}

-- the pending rows of each tree, by its name
abbrev pub PendingRows : Type 0
PendingRows = List ℕ → List Row

abbrev pub none_pending : PendingRows
none_pending name = []

-- those of a state
abbrev pub pending_in : State → PendingRows
pending_in m name = option_map_or (λ t. t.pending) (get m.trees name) []

-- ---- baskets

-- How long the record of an open basket is, without zero bytes, and how many bytes and entries are in it together.
pub record BasketLengths : Type 0 where
  pub size : ℕ
  pub filling : ℕ

-- of a basket with these entries, of a branch of the tree
abbrev pub basket_lengths : List ℕ → BranchDef → List (List ℕ) → BasketLengths
basket_lengths tree b entries =
    let keylen = basket_key_length tree b.name in
    record {
      size = keylen + length (basket_data keylen (record { offsets = has_offsets b.shape; entries = entries; rooms = 0; spare = 0 }));
      filling = entries_length entries + length entries;
    }

-- the entries of rows in each branch, by those of each row
abbrev pub entries_by_branch : List BranchDef → List (List (List ℕ)) → List (List (List ℕ))
entries_by_branch [] rows = []
entries_by_branch (b ∷ bs) rows = map (λ entries. unwrap_or (slice_get entries 0) []) rows ∷ entries_by_branch bs (map (λ entries. drop 1 entries) rows)

-- the baskets of pending rows, branch by branch: those that were put, and the open one
abbrev pub cuts_of : List ClassDef → List BranchDef → List Row → List Cut
cuts_of classes branches rows = map cut_of (entries_by_branch branches (map (entries_of classes branches) rows))

-- the open baskets that have entries
abbrev pub open_baskets : List ℕ → List BranchDef → List Cut → List BasketLengths
open_baskets tree [] cuts = []
open_baskets tree (b ∷ bs) [] = []
open_baskets tree (b ∷ bs) (cut ∷ cuts) = map (basket_lengths tree b) (basket_with cut.rest) ++ open_baskets tree bs cuts

-- how many baskets were put, and how many the next header names beside those that it has
abbrev pub put_count : List Cut → ℕ
put_count cuts = sum_by (λ cut. length cut.put) cuts

abbrev pub cut_count : List Cut → ℕ
cut_count cuts = sum_by (λ cut. length (baskets_of_cut cut)) cuts

-- ---- trees

-- Whether rows are pending, how long the record of the next header is, without zero bytes, and the open baskets that have entries.
pub record TreeLengths : Type 0 where
  pub pending : Bool
  pub header : ℕ
  pub baskets : List BasketLengths

-- of a tree with this header and these rows pending
unfoldable pub tree_lengths : List ClassDef → List ℕ → List Row → TreeHead → TreeLengths
tree_lengths classes name rows head =
    let branches = stated_defs head.branches in
    let cuts = cuts_of classes branches rows in
    record {
      pending = not (length rows == 0);
      header = head_length (codes "TTree") name + header_length name branches (basket_count head + cut_count cuts);
      baskets = open_baskets name branches cuts;
    }

-- of the trees whose headers are read
abbrev pub trees_among : FileClasses → PendingRows → List KeyedRecord → List TreeLengths
trees_among classes pending headers = filter_map (λ r. option_map (tree_lengths classes.declared r.head.name (pending r.head.name)) (header_in classes r)) headers

-- how many baskets of theirs were put since the last save
unfoldable pub put_among : FileClasses → PendingRows → List KeyedRecord → ℕ
put_among classes pending headers =
    sum_by (λ r. option_map_or (λ head. put_count (cuts_of classes.declared (stated_defs head.branches) (pending r.head.name))) (header_in classes r) 0) headers

-- ---- what is written, and what is held

-- the records of a save that is due: the open baskets, and the header
abbrev pub save_lengths : TreeLengths → List ℕ
save_lengths t = if t.pending then map (λ b. b.size) t.baskets ++ t.header ∷ [] else []

-- of a tree that needs none the next header, with three bytes for its zero bytes
abbrev pub idle_length : TreeLengths → ℕ
idle_length t = if t.pending then 0 else t.header + 3

-- what is in the open baskets, at most 400 of each
abbrev pub small_fillings : TreeLengths → ℕ
small_fillings t = sum_by (λ b. min 400 b.filling) t.baskets
