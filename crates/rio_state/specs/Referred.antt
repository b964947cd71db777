-- To which records of a file something refers: the state that they stand for, or the file itself.
use Rattle.std.specs.Prelude.{List, Bool, ◌==◌, ◌&&◌, ◌||◌, not}
use Rattle.rio_state.specs.{Contents.{file_classes}, KeyedRecords.{KeyedRecord, first_place, info_key, is_top_key, is_tree_key, is_tree_record, top_keys, tree_records}, Reads.{info_place}, Trees.{is_named_place}}

-- the record is that of an object or a tree; of a tree's name it has the greatest cycle
abbrev pub is_item_record : List KeyedRecord → KeyedRecord → Bool
is_item_record tops r = is_top_key r.head && (not (is_tree_key r.head) || is_tree_record tops r)

-- the record of a tree, which has the greatest cycle of its name
abbrev pub is_tree_item : List KeyedRecord → KeyedRecord → Bool
is_tree_item tops r = is_top_key r.head && is_tree_record tops r

-- the header of a tree names the record as a basket
abbrev pub is_named_basket : List KeyedRecord → KeyedRecord → Bool
is_named_basket records r = is_named_place (file_classes (info_key records)) (tree_records (top_keys records)) r.head.seek

-- the record is the first, that of the class list that counts, an item's, or a basket of a tree
abbrev pub is_referred : List KeyedRecord → KeyedRecord → Bool
is_referred records r =
    (r.head.seek == first_place) || (r.head.seek == info_place (info_key records)) || is_item_record (top_keys records) r || is_named_basket records r
