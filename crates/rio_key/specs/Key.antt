-- A key. Each rule stands here once; the meanings of descriptions say how it is read, spelled and broken.
use Rattle.std.specs.{Prelude.{ℕ, ◌-◌, pos, List, Result, nat_lt, int_lt, ◌-ℤ◌, Bool}, Int.{w32, cast_signed}}
use Rattle.rio_num.specs.{At.{At, place_len_of}, Layout.{done, broken, number, text, here, ◌>>=◌, when◌then◌else◌}, Meanings.{Reading, read, Breaks}}
use Rattle.rio_num.specs.Plain.{IsSpelledBy, Plain, plain, value_of}
use Rattle.rio_key.specs.{declared.head.KeyHead.{KeyHead}, declared.fault.KeyFault.{KeyFault, TheVariants.{Short, BadLength, BadKeyLen}}}

-- ---- the layout

-- the fields, each of them whole
unfoldable pub key_fields : Plain KeyFault KeyHead
key_fields = do
  nbytes ← number Short 4
  version ← number Short 2
  objlen ← number Short 4
  datime ← number Short 4
  keylen ← number Short 2
  cycle ← number Short 2
  seek ← number Short (place_len_of version)
  pdir ← number Short (place_len_of version)
  class ← text Short
  name ← text Short
  title ← text Short
  done (record { nbytes = cast_signed w32 nbytes; version = version; objlen = objlen; datime = datime; keylen = keylen; cycle = cycle; seek = seek; pdir = pdir; class = class; name = name; title = title })

-- a key, whose record holds it and which holds its title
unfoldable pub key_layout : Plain KeyFault KeyHead
key_layout = do
  place ← here
  key ← key_fields
  end ← here
  when int_lt key.nbytes (pos key.keylen) then broken (BadLength place) else when nat_lt key.keylen (end - place) then broken (BadKeyLen place) else done key

-- ---- what bytes are

-- a key, and where its title ends, or the first fault
abbrev pub key_head_at : At → Reading (Unit {0}) KeyFault KeyHead
key_head_at s = read key_layout (plain s)

-- the key there, or the first fault
abbrev pub key_at : At → Result KeyHead KeyFault
key_at s = value_of (key_head_at s)

-- the bytes are a key's from its first to its title's end
unfoldable pub SpellsKey : KeyHead → List ℕ → Type 0
SpellsKey key bytes = IsSpelledBy key_layout key bytes

-- the bytes there begin with no key: what stands before is right, and this is the first fault
unfoldable pub BreaksKey : At → KeyFault → Type 0
BreaksKey s fault = Breaks key_layout s.place tt s.rest fault

-- the data are compressed: they would be longer than what the record has behind its key
abbrev pub is_compressed : KeyHead → Bool
is_compressed h = int_lt (h.nbytes -ℤ pos h.keylen) (pos h.objlen)
