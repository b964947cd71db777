-- A record as it is put into a file: a key of the small form, data, and zero bytes up to a length that is a multiple of four,
-- which count as data.
use Rattle.std.specs.Prelude.{ℕ, ◌+◌, ◌^◌, ◌<◌, pos, List, ◌++◌, length}
use Rattle.rio_num.specs.Room.{padding}
use Rattle.rio_key.specs.{Written.{key_length_of, padded_size, written_key}, declared.head.KeyHead.{KeyHead}}
use Rattle.rio_chain.specs.declared.key_words.KeyWords.{KeyWords}

-- how long the key is
abbrev pub key_size : KeyWords → ℕ
key_size words = key_length_of words.class words.name words.title

-- the key of a record with n bytes of data
abbrev pub new_key : KeyWords → ℕ → KeyHead
new_key words n =
    let keylen = key_size words in
    let objlen = padded_size keylen n in
    record {
      nbytes = pos (keylen + objlen);
      version = 4;
      objlen = objlen;
      datime = words.datime;
      keylen = keylen;
      cycle = words.cycle;
      seek = words.place;
      pdir = words.directory;
      class = words.class;
      name = words.name;
      title = words.title;
    }

-- the key and the data, without the zero bytes
abbrev pub unpadded : KeyWords → List ℕ → List ℕ
unpadded words contents = written_key (new_key words (length contents)) ++ contents

-- the record
unfoldable pub record_bytes : KeyWords → List ℕ → List ℕ
record_bytes words contents = let front = unpadded words contents in front ++ padding front

-- its numbers fit their fields
pub record FitsWords (words : KeyWords) (n : ℕ) : Type 0 where
  pub place : words.place < 2 ^ 32
  pub directory : words.directory < 2 ^ 32
  pub datime : words.datime < 2 ^ 32
  pub cycle : words.cycle < 2 ^ 16
  pub key : key_size words < 2 ^ 16
  pub whole : key_size words + padded_size (key_size words) n < 2 ^ 31
