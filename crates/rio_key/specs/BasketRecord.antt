-- The record that is written for a basket: its key with the basket's head in it, the entries, their offsets where they have
-- some, and zero bytes up to a length that is a multiple of four.
use Rattle.std.specs.{Prelude.{ℕ, ◌+◌, ◌^◌, ◌<◌, pos, List, [], ◌∷◌, ◌++◌, length, codes, if◌then◌else◌}, List.{concat, flat_map}}
use Rattle.byteorder.specs.Endian.{big_bytes}
use Rattle.rio_num.specs.Room.{padding}
use Rattle.rio_key.specs.{BasketHead.{basket_head_bytes}, Written.{key_length_of, padded_size, written_key}, declared.basket_head.BasketHead.{BasketHead}, declared.head.KeyHead.{KeyHead}}
use Rattle.rio_key.specs.OpenBasket.{OpenBasket, entries_length}

-- ---- data

-- where each entry begins, the first of them at this place, and where the last one ends
abbrev pub offsets_of : ℕ → List (List ℕ) → List ℕ
offsets_of place [] = place ∷ []
offsets_of place (entry ∷ entries) = place ∷ offsets_of (place + length entry) entries

-- how many offsets there are, one more than entries, and each of them; they count from the key's first byte
abbrev pub offset_table : ℕ → List (List ℕ) → List ℕ
offset_table keylen entries = big_bytes 4 (length entries + 1) ++ flat_map (big_bytes 4) (offsets_of keylen entries)

-- the entries behind a key of this length, and their offsets where they have some
abbrev pub basket_data : ℕ → OpenBasket → List ℕ
basket_data keylen basket = concat basket.entries ++ (if basket.offsets then offset_table keylen basket.entries else [])

-- ---- key and head

-- how long the key is: its name is the branch and its title the tree, and it has the 19 bytes of the basket's head behind them
abbrev pub basket_key_length : List ℕ → List ℕ → ℕ
basket_key_length tree branch = key_length_of (codes "TBasket") branch tree + 19

-- the key of a record at this place, with n bytes of data and the time of its writing
abbrev pub basket_key : ℕ → List ℕ → List ℕ → ℕ → ℕ → KeyHead
basket_key place tree branch datime n =
    let keylen = basket_key_length tree branch in
    let objlen = padded_size keylen n in
    record {
      nbytes = pos (keylen + objlen);
      version = 4;
      objlen = objlen;
      datime = datime;
      keylen = keylen;
      cycle = 0;
      seek = place;
      pdir = 100;
      class = codes "TBasket";
      name = branch;
      title = tree;
    }

abbrev pub first_entry_length : List (List ℕ) → ℕ
first_entry_length [] = 0
first_entry_length (entry ∷ entries) = length entry

-- the length of each entry, or with offsets the number of entries
abbrev pub entry_size : OpenBasket → ℕ
entry_size basket = if basket.offsets then length basket.entries else first_entry_length basket.entries

-- the head of a basket whose key has this length
abbrev pub basket_head : ℕ → OpenBasket → BasketHead
basket_head keylen basket = record {
  version = 3;
  buffer_size = pos 32000;
  nev_size = pos (entry_size basket);
  nev = pos (length basket.entries);
  last = pos (keylen + entries_length basket.entries);
  flag = 0;
}

-- ---- record

-- the key, the head and the data, without the zero bytes
abbrev pub unpadded_basket : ℕ → List ℕ → List ℕ → ℕ → OpenBasket → List ℕ
unpadded_basket place tree branch datime basket =
    let keylen = basket_key_length tree branch in
    let contents = basket_data keylen basket in
    written_key (basket_key place tree branch datime (length contents)) ++ (basket_head_bytes (basket_head keylen basket) ++ contents)

-- the record at this place, of a branch of a tree
unfoldable pub basket_record : ℕ → List ℕ → List ℕ → ℕ → OpenBasket → List ℕ
basket_record place tree branch datime basket = let front = unpadded_basket place tree branch datime basket in front ++ padding front

-- how long it is
abbrev pub basket_record_length : List ℕ → List ℕ → OpenBasket → ℕ
basket_record_length tree branch basket =
    let keylen = basket_key_length tree branch in keylen + padded_size keylen (length (basket_data keylen basket))

-- its numbers fit their fields
pub record FitsBasketRecord (place : ℕ) (tree branch : List ℕ) (datime : ℕ) (basket : OpenBasket) : Type 0 where
  pub place_fits : place < 2 ^ 32
  pub datime_fits : datime < 2 ^ 32
  pub key_fits : basket_key_length tree branch < 2 ^ 16
  pub count_fits : length basket.entries < 2 ^ 31
  pub record_fits : basket_record_length tree branch basket < 2 ^ 31
