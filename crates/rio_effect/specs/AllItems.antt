-- Files in which no header of a tree is outdated.
use Rattle.std.specs.{Prelude.{◌≡◌, ◌⊎◌, ℕ, List, ◌&&◌, true, false}, List.{list_all, list_any}, Str.{bytes_eq}}
use Rattle.rio_key.specs.declared.head.KeyHead.{KeyHead}
use Rattle.rio_chain.specs.{Changes.{with_record}, Segments.{Link}}
use Rattle.rio_state.specs.KeyedRecords.{KeyedRecord, is_top_key, is_tree_key, keyed_records, top_keys}
use Rattle.rio_state.specs.{OneLess.{HasRecord, links_without}, OneMore.{KeyIsRead}, Referred.{is_item_record}}

-- each key of the directory is that of an object, or of a tree's header that counts
abbrev pub AreAllItems : List Link → Type 0
AreAllItems links = let tops = top_keys (keyed_records links) in list_all (is_item_record tops) tops ≡ true

-- so it stays without a record
abbrev pub ItemsStayWithout : Type 0
ItemsStayWithout = (file : List ℕ) (links : List Link) (r : KeyedRecord) → HasRecord file links r → AreAllItems links → AreAllItems (links_without links r)

-- no key of the directory has the name
abbrev pub IsNewName : List Link → List ℕ → Type 0
IsNewName links name = list_any (λ s. bytes_eq s.head.name name) (top_keys (keyed_records links)) ≡ false

-- and with one more that is no header, or one under a new name
abbrev pub ItemsStayWith : Type 0
ItemsStayWith = (links : List Link) (place : ℕ) (bytes : List ℕ) (head : KeyHead) → KeyIsRead place bytes head → (is_top_key head && is_tree_key head ≡ false) ⊎ IsNewName links head.name
    → AreAllItems links → AreAllItems (with_record place bytes links)
