-- What the commands of trees do to a file's records: tree, fill, save, and the delete of a tree.
--
-- The records and the state don't tell where the baskets stand that were put since the last save of their tree: no header names them, so
-- nothing says of which entries they are. So these places are kept beside the records: for each tree by its name, branch by branch and in
-- order, as the next header names them. How the pending rows are cut into baskets, and which basket is open, follows from the rows.
-- A save puts them into the header, and they are forgotten, as they are with a delete of the tree and when a file is opened: then they
-- are records to which nothing refers. A session keeps them with the open baskets.
use Rattle.std.specs.Prelude.{ℕ, ◌+◌, ◌-◌, List, [], ◌∷◌, ◌++◌, length, map, ◌==◌, Option, is_some, if◌then◌else◌}
use Rattle.std.specs.{List.{filter, find, flat_map, list_any}, Option.{option_map_or}, Str.{bytes_eq}}
use Rattle.rio_leaf.specs.declared.branch.BranchDef.{BranchDef}
use Rattle.rio_format.specs.declared.class.ClassDef.{ClassDef}
use Rattle.rio_chain.specs.Segments.{Link}
use Rattle.rio_machine.specs.{Rows.{entries_of}, State.{Row, State, Tree}}
use Rattle.rio_key.specs.{Cut.{Cut}, OpenBasket.{takes_entry}}
use Rattle.rio_tree.specs.{declared.basket_at.BasketAt.{BasketAt}, declared.head.TreeHead.{TreeHead}}
use Rattle.rio_state.specs.{Contents.{file_classes}, KeyedRecords.{KeyedRecord, info_key, keyed_records, top_keys, tree_records}, TreeLengths.{cuts_of}, Trees.{basket_places, header_in}}
use Rattle.rio_step.specs.Refusing.{fill_row, rows_of_tree}
use Rattle.rio_effect.specs.{Changes.{Change, added, basket_added, basket_place, changed, released}, ClassRecord.{list_data, list_words}}
use Rattle.rio_effect.specs.TreeRecords.{basket_at, head_with, header_data, header_words, new_head, words_of_basket}

-- ---- what is kept

-- Of each tree, by its name, the baskets of each branch that were put since its last save.
abbrev pub PutBaskets : Type 0
PutBaskets = List ℕ → List (List BasketAt)

abbrev pub none_put : PutBaskets
none_put name = []

-- with those of one tree instead
abbrev pub with_put : PutBaskets → List ℕ → List (List BasketAt) → PutBaskets
with_put put name baskets other = if bytes_eq other name then baskets else put other

-- branch by branch, those of the second list behind those of the first; where a list ends its branches have none
abbrev pub all_behind : List (List BasketAt) → List (List BasketAt) → List (List BasketAt)
all_behind [] more = more
all_behind (ats ∷ baskets) [] = ats ∷ baskets
all_behind (ats ∷ baskets) (more ∷ others) = (ats ++ more) ∷ all_behind baskets others

-- The records of a file, and these baskets.
pub record FileRecords : Type 0 where
  pub links : List Link
  pub put : PutBaskets

-- ---- trees

-- the record of a tree's header, and the header
abbrev pub header_record_of : List Link → List ℕ → Option KeyedRecord
header_record_of links name = find (λ r. bytes_eq r.head.name name) (tree_records (top_keys (keyed_records links)))

abbrev pub header_of : List Link → KeyedRecord → Option TreeHead
header_of links r = header_in (file_classes (info_key (keyed_records links))) r

-- the pending rows of a tree, cut into baskets, branch by branch
abbrev pub cuts_of_tree : State → Tree → List Cut
cuts_of_tree m t = cuts_of m.classes t.branches t.pending

-- ---- baskets

-- Baskets of these entries, branch by branch, are put in order of branches; of a branch without entries none is.
abbrev pub basket_changes : ℕ → List ℕ → List BranchDef → List (List (List ℕ)) → List Change
basket_changes datime tree [] entries = []
basket_changes datime tree (b ∷ bs) [] = []
basket_changes datime tree (b ∷ bs) ([] ∷ entries) = basket_changes datime tree bs entries
basket_changes datime tree (b ∷ bs) ((e ∷ es) ∷ entries) = basket_added (words_of_basket tree b datime (e ∷ es)) ∷ basket_changes datime tree bs entries

-- Where they stand then, in a tree that has so many entries with them: each has the last ones of its branch.
abbrev pub baskets_placed : ℕ → List ℕ → ℕ → List Link → List BranchDef → List (List (List ℕ)) → List (List BasketAt)
baskets_placed datime tree count links [] entries = []
baskets_placed datime tree count links (b ∷ bs) [] = [] ∷ baskets_placed datime tree count links bs []
baskets_placed datime tree count links (b ∷ bs) ([] ∷ entries) = [] ∷ baskets_placed datime tree count links bs entries
baskets_placed datime tree count links (b ∷ bs) ((e ∷ es) ∷ entries) =
    let words = words_of_basket tree b datime (e ∷ es) in
    (basket_at (basket_place links words) (count - length (e ∷ es)) words ∷ []) ∷ baskets_placed datime tree count (changed links (basket_added words)) bs entries

-- ---- a tree

-- the class list, where the file has none: without it the header couldn't be read
abbrev pub list_if_none : ℕ → Option KeyedRecord → List ClassDef → List Change
list_if_none datime info classes =
    let words = list_words 0 datime 1 in if is_some info then [] else added words (list_data words classes) ∷ []

-- the header of a tree, with its cycle
abbrev pub header_added : ℕ → List ℕ → ℕ → TreeHead → Change
header_added datime name cycle head = let words = header_words 0 datime name cycle in added words (header_data words name head)

abbrev pub changes_of_tree : ℕ → List Link → State → List ℕ → List BranchDef → List Change
changes_of_tree datime links m name branches =
    list_if_none datime (info_key (keyed_records links)) m.classes ++ header_added datime name 1 (new_head m.classes branches) ∷ []

-- ---- a fill

-- the entries of each branch's open basket, where it doesn't take the entry of a row
abbrev pub full_entries : List Cut → List (List ℕ) → List (List (List ℕ))
full_entries [] row = []
full_entries (cut ∷ cuts) [] = [] ∷ full_entries cuts []
full_entries (cut ∷ cuts) (entry ∷ row) = (if takes_entry cut.rest (length entry) then [] else cut.rest) ∷ full_entries cuts row

abbrev pub full_of_tree : State → Row → Tree → List (List (List ℕ))
full_of_tree m row t = full_entries (cuts_of_tree m t) (entries_of m.classes t.branches (fill_row m row))

-- these baskets are put
abbrev pub changes_of_fill : ℕ → State → List ℕ → Row → Tree → List Change
changes_of_fill datime m name row t = basket_changes datime name t.branches (full_of_tree m row t)

abbrev pub put_by_fill : ℕ → FileRecords → State → List ℕ → Row → Tree → List (List BasketAt)
put_by_fill datime now m name row t =
    all_behind (now.put name) (baskets_placed datime name (length (rows_of_tree t)) now.links t.branches (full_of_tree m row t))

-- ---- a save

-- the entries of each branch's open basket
abbrev pub open_of_tree : State → Tree → List (List (List ℕ))
open_of_tree m t = map (λ cut. cut.rest) (cuts_of_tree m t)

-- all baskets that were put since the last save, the open ones too
abbrev pub put_by_save : ℕ → FileRecords → State → List ℕ → Tree → List (List BasketAt)
put_by_save datime now m name t =
    all_behind (now.put name) (baskets_placed datime name (length (rows_of_tree t)) now.links t.branches (open_of_tree m t))

-- the header of the save
abbrev pub head_of_save : ℕ → FileRecords → State → List ℕ → Tree → TreeHead → TreeHead
head_of_save datime now m name t old = head_with (length (rows_of_tree t)) old (put_by_save datime now m name t)

-- The open baskets are put, then the header of the next cycle, which names all baskets, and then the header before is released.
abbrev pub changes_by_header : ℕ → FileRecords → State → List ℕ → Tree → KeyedRecord → TreeHead → List Change
changes_by_header datime now m name t r old =
    basket_changes datime name t.branches (open_of_tree m t)
    ++ header_added datime name (r.head.cycle + 1) (head_of_save datime now m name t old) ∷ released r.head.seek ∷ []

abbrev pub changes_of_save : ℕ → FileRecords → State → List ℕ → Tree → List Change
changes_of_save datime now m name t =
    option_map_or (λ r. option_map_or (changes_by_header datime now m name t r) (header_of now.links r) []) (header_record_of now.links name) []

-- ---- a delete

-- the records that begin at these places are released, in the order in which they stand
abbrev pub releases_at : List Link → List ℕ → List Change
releases_at links places = map (λ r. released r.head.seek) (filter (λ r. list_any (λ p. p == r.head.seek) places) (keyed_records links))

-- where the baskets of a tree stand that a header names, and those that were put since
abbrev pub places_of_baskets : FileRecords → List ℕ → TreeHead → List ℕ
places_of_baskets now name head = basket_places head ++ flat_map (map (λ at. at.seek)) (now.put name)

-- its header is released, and then all its baskets
abbrev pub changes_without_tree : FileRecords → List ℕ → KeyedRecord → List Change
changes_without_tree now name r =
    released r.head.seek ∷ option_map_or (λ head. releases_at now.links (places_of_baskets now name head)) (header_of now.links r) []

abbrev pub changes_of_tree_delete : FileRecords → List ℕ → List Change
changes_of_tree_delete now name = option_map_or (changes_without_tree now name) (header_record_of now.links name) []
