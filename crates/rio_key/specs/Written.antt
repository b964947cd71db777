-- The one way in which a key is written.
use Rattle.std.specs.{Prelude.{◌≡◌, ℕ, ◌^◌, ◌<◌, ◌≤◌, pos, List, ◌++◌, length, ◌+◌}, Int.{w32, cast_unsigned}}
use Rattle.byteorder.specs.Endian.{big_bytes}
use Rattle.rio_num.specs.{Text.{text_bytes}, At.{place_len_of}, Padding.{zeros_behind}}
use Rattle.rio_key.specs.{Key.{SpellsKey}, declared.head.KeyHead.{KeyHead}}

-- the numbers of a key, of a record with this length, each in its field
abbrev pub number_bytes : KeyHead → ℕ → List ℕ
number_bytes h nbytes =
    big_bytes 4 nbytes ++ (big_bytes 2 h.version ++ (big_bytes 4 h.objlen ++ (big_bytes 4 h.datime ++ (big_bytes 2 h.keylen ++ (big_bytes 2 h.cycle ++ (big_bytes (place_len_of h.version) h.seek ++ big_bytes (place_len_of h.version) h.pdir))))))

-- each number within its field
pub record AreWithinFields (h : KeyHead) : Type 0 where
  pub version : h.version < 2 ^ 16
  pub objlen : h.objlen < 2 ^ 32
  pub datime : h.datime < 2 ^ 32
  pub keylen : h.keylen < 2 ^ 16
  pub cycle : h.cycle < 2 ^ 16
  pub seek : h.seek < 256 ^ place_len_of h.version
  pub pdir : h.pdir < 256 ^ place_len_of h.version

-- the bytes of a key from its first to its title's end, each text in its short form where it can be
abbrev pub written_key : KeyHead → List ℕ
written_key h = number_bytes h (cast_unsigned w32 h.nbytes) ++ (text_bytes h.class ++ (text_bytes h.name ++ text_bytes h.title))

-- each text's length fits, and the places fit the form of the key's version
pub record FitsKey (h : KeyHead) : Type 0 where
  pub seek : h.seek < 256 ^ place_len_of h.version
  pub pdir : h.pdir < 256 ^ place_len_of h.version
  pub class : length h.class < 2 ^ 32
  pub name : length h.name < 2 ^ 32
  pub title : length h.title < 2 ^ 32

-- numbers that fit their fields, a record that holds its key, and a key that holds what is written of it
pub record HoldsItself (h : KeyHead) : Type 0 where
  pub numbers : AreWithinFields h
  pub nbytes : ℕ
  pub length_is : h.nbytes ≡ pos nbytes
  pub length_fits : nbytes < 2 ^ 31
  pub key_held : h.keylen ≤ nbytes
  pub title_held : length (written_key h) ≤ h.keylen

-- what is written of such a key spells it, so it is read
abbrev pub WrittenKeyIsSpelled : Type 0
WrittenKeyIsSpelled = (h : KeyHead) → FitsKey h → HoldsItself h → SpellsKey h (written_key h)

-- how long data behind a key are with the zero bytes that make the record's length a multiple of four
abbrev pub padded_size : ℕ → ℕ → ℕ
padded_size keylen n = n + zeros_behind (keylen + n)

-- how long a key of the small form is that has this class, name and title: 26 bytes of numbers, and its texts
abbrev pub key_length_of : List ℕ → List ℕ → List ℕ → ℕ
key_length_of class name title = 26 + length (text_bytes class) + length (text_bytes name) + length (text_bytes title)
