-- What the record of a tree's header makes of what a file reads as: the first one, and that of a save.
use Rattle.std.specs.Prelude.{◌≡◌, ℕ, List, [], Bool, true, false, not, ◌&&◌, ◌||◌, nat_lt, Some}
use Rattle.std.specs.{FinMap.{insert}, List.{Contains, list_any}, Str.{bytes_eq}}
use Rattle.rio_chain.specs.Segments.{IsChain, Link}
use Rattle.rio_machine.specs.State.{Row, State}
use Rattle.rio_tree.specs.declared.head.TreeHead.{TreeHead}
use Rattle.rio_state.specs.{Contents.{file_classes, state_classes}, OneMore.{HasOneMoreIn}, Reads.{AreRecordsOf, is_named_key}, Referred.{is_referred}}
use Rattle.rio_state.specs.KeyedRecords.{KeyedRecord, begins_at, info_key, is_top_key, is_tree_key, is_tree_record, keyed_records, record_at, top_keys, tree_records}
use Rattle.rio_state.specs.Trees.{are_named_once, basket_places, header_in, places_named, saved_rows, saved_tree}

-- a key of the name that isn't a tree's of a lower cycle
abbrev pub stands_against : KeyedRecord → KeyedRecord → Bool
stands_against r s = bytes_eq s.head.name r.head.name && (not (is_tree_key s.head) || not (nat_lt s.head.cycle r.head.cycle))

-- The record holds the header of a tree, which represents these rows among some records. All keys of its name there are headers of lower
-- cycles. No basket of it is named twice, or by a tree of another name.
pub record IsNextHeader (records : List KeyedRecord) (r : KeyedRecord) (head : TreeHead) (rows : List Row) : Type 0 where
  pub top : is_top_key r.head ≡ true
  pub tree : is_tree_key r.head ≡ true
  pub named : is_named_key r.head ≡ true
  pub header : header_in (file_classes (info_key records)) r ≡ Some head
  pub rows_are : saved_rows (state_classes (info_key records)) (record_at records) head ≡ Some rows
  pub newest : list_any (stands_against r) (top_keys records) ≡ false
  pub once : are_named_once [] (basket_places head) ≡ true
  pub apart : (s : KeyedRecord) (p : ℕ) → Contains (tree_records (top_keys records)) s → bytes_eq s.head.name r.head.name ≡ false
      → Contains (places_named (file_classes (info_key records)) s) p → Contains (basket_places head) p → ⊥

-- the state with that tree under the name
abbrev pub with_saved_tree : State → KeyedRecord → TreeHead → List Row → State
with_saved_tree m r head rows = record m { trees = insert m.trees r.head.name (saved_tree r head rows) }

-- With it, at a place where no record begins, the records stand for the state with the tree: a new one, or one with more rows. An older
-- header of the name is there still, outdated.
abbrev pub HeaderTakesEffect : Type 0
HeaderTakesEffect = (old new : List KeyedRecord) (r : KeyedRecord) (head : TreeHead) (rows : List Row) (m : State) → HasOneMoreIn old new r → begins_at old r.head.seek ≡ false
    → IsNextHeader old r head rows → AreRecordsOf old m → AreRecordsOf new (with_saved_tree m r head rows)

-- Nothing refers to an outdated header.
abbrev pub OutdatedHeaderGoes : Type 0
OutdatedHeaderGoes = (file : List ℕ) (links : List Link) (m : State) (s : KeyedRecord) → IsChain links file → AreRecordsOf (keyed_records links) m
    → Contains (keyed_records links) s → is_top_key s.head ≡ true → is_tree_key s.head ≡ true → is_tree_record (top_keys (keyed_records links)) s ≡ false
    → is_referred (keyed_records links) s ≡ false
