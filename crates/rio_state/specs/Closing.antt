-- What a close writes and how long it is; whether a command's records leave room for it; and how much a file holds.
use Rattle.std.specs.{Prelude.{ℕ, ◌+◌, ◌*◌, List, [], ◌∷◌, ◌++◌, length, map, codes, Bool, nat_lt, Option}, List.{flat_map, sum_by}, Option.{option_map_or}}
use Rattle.rio_key.specs.{Written.{written_key}, declared.head.KeyHead.{KeyHead}}
use Rattle.rio_chain.specs.{Placing.{end_after, space_of}, Segments.{Link, chain_end}, declared.segment.Segment.{Segment}}
pub use Rattle.rio_num.specs.Padding.{padded_length}
use Rattle.rio_machine.specs.Limits.{head_length}
use Rattle.rio_state.specs.{Contents.{file_classes}, KeyedRecords.{KeyedRecord, info_key, keyed_records, object_records, top_keys, tree_records}}
use Rattle.rio_state.specs.{TreeLengths.{PendingRows, TreeLengths, idle_length, none_pending, put_among, save_lengths, small_fillings, trees_among}, Trees.{all_places_named}}

-- how far END may be, with what a close writes behind it
abbrev pub end_limit : ℕ
end_limit = 1999999996

-- ---- what a close writes

-- What a file keeps, as far as a close writes of it: the file's name, the heads of its objects and trees, how many records are kept
-- in all, and its trees. Kept are the first record, the class list that counts, the records of objects and trees, the baskets that
-- headers name, and those that were put since the last save of their tree.
pub record KeptRecords : Type 0 where
  pub name : List ℕ
  pub heads : List KeyHead
  pub count : ℕ
  pub trees : List TreeLengths

-- how many open baskets have entries
abbrev pub open_count : KeptRecords → ℕ
open_count kept = sum_by (λ t. length t.baskets) kept.trees

-- the key list: how many heads there are, and the heads as they are written
abbrev pub list_length : KeptRecords → ℕ
list_length kept = head_length (codes "TFile") kept.name + 4 + sum_by (λ h. length (written_key h)) kept.heads

-- The free record: ten bytes for each gap that may be between so many records and open baskets, for the key list's, and for what is
-- behind END.
abbrev pub free_length : KeptRecords → ℕ
free_length kept = head_length (codes "TFile") kept.name + 10 * (kept.count + open_count kept + 2)

-- the records that a close saves the trees with, each without its zero bytes at the end
abbrev pub saved_lengths : KeptRecords → List ℕ
saved_lengths kept = flat_map save_lengths kept.trees

-- all records that a close would write now, each without its zero bytes at the end
abbrev pub closing_lengths : KeptRecords → List ℕ
closing_lengths kept = saved_lengths kept ++ list_length kept ∷ free_length kept ∷ []

-- how long the records of a close are together
unfoldable pub close_need : KeptRecords → ℕ
close_need kept = sum_by padded_length (closing_lengths kept)

-- ---- what a file keeps

-- the name of the file is that of its first record
abbrev pub name_in : List KeyedRecord → List ℕ
name_in [] = []
name_in (first ∷ records) = first.head.name

-- the first record, the class list, and those of objects and trees
abbrev pub kept_count : Option KeyedRecord → List KeyHead → ℕ
kept_count info heads = 1 + option_map_or (λ r. 1) info 0 + length heads

-- the heads of the objects and trees among some keys; of a tree's name that of the greatest cycle
abbrev pub item_heads : List KeyedRecord → List KeyHead
item_heads tops = map (λ r. r.head) (object_records tops ++ tree_records tops)

-- by the class list that counts, the heads of items and the records of headers, with these rows pending
abbrev pub kept_of : PendingRows → List ℕ → Option KeyedRecord → List KeyHead → List KeyedRecord → KeptRecords
kept_of pending name info heads headers = record {
  name = name;
  heads = heads;
  count = kept_count info heads + length (all_places_named (file_classes info) headers) + put_among (file_classes info) pending headers;
  trees = trees_among (file_classes info) pending headers;
}

-- By a file's segments, with these rows pending: they are in no record that the file reads as a state by.
unfoldable pub kept_with : PendingRows → List Link → KeptRecords
kept_with pending links =
    let records = keyed_records links in
    let tops = top_keys records in
    kept_of pending (name_in records) (info_key records) (item_heads tops) (tree_records tops)

-- with none pending, as a file that is opened
abbrev pub kept_in : List Link → KeptRecords
kept_in links = kept_with none_pending links

-- ---- room

-- the greatest END that is reached when records of these lengths are laid one after the other
unfoldable pub lay_all : List ℕ → List Segment → ℕ
lay_all lengths segments = end_after lengths (space_of segments)

-- There is no room for a command's records, with what a close needs behind the command: its mark is Full.
unfoldable pub is_full : List Segment → List ℕ → ℕ → Bool
is_full segments lengths need = nat_lt end_limit (lay_all lengths segments + need)

-- How much a file holds beside END and what a close needs: the next headers of trees without pending rows, and of each open basket
-- at most 400 of what is in it.
abbrev pub held_beside : KeptRecords → ℕ
held_beside kept = sum_by idle_length kept.trees + sum_by small_fillings kept.trees

abbrev pub held_by : ℕ → KeptRecords → ℕ
held_by end kept = end + sum_by (λ n. n + 3) (closing_lengths kept) + held_beside kept

-- How much a file holds: END, what a close needs, and what its trees may still come to need, with three bytes for the zero bytes of
-- each record. A command raises it by no more than its cost.
unfoldable pub held_with : PendingRows → List Link → ℕ
held_with pending links = held_by (chain_end links) (kept_with pending links)

-- with none pending
abbrev pub held_of : List Link → ℕ
held_of links = held_with none_pending links
