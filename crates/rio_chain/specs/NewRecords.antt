-- What holds of every new record.
use Rattle.std.specs.Prelude.{◌≡◌, ℕ, ◌+◌, ◌%◌, ◌<◌, List, ◌++◌, length, drop, replicate, Ok}
use Rattle.rio_num.specs.Plain.{IsSpelledIn}
use Rattle.rio_key.specs.{Key.{SpellsKey, key_at}, Written.{padded_size}}
use Rattle.rio_chain.specs.Segments.{IsRecord}
use Rattle.rio_chain.specs.{Record.{FitsWords, key_size, new_key, record_bytes}, declared.key_words.KeyWords.{KeyWords}}

-- A record of the chain at its place: as long as its key and its padded data, a multiple of four. Its key stands first and is
-- read there, and behind it stand its data and at most three zero bytes.
pub record IsNewRecord (words : KeyWords) (contents : List ℕ) : Type 0 where
  pub size : length (record_bytes words contents) ≡ key_size words + padded_size (key_size words) (length contents)
  pub aligned : length (record_bytes words contents) % 4 ≡ 0
  pub key : IsSpelledIn (SpellsKey (new_key words (length contents))) (record_bytes words contents)
  pub key_read : (place : ℕ) → key_at (record { place = place; rest = record_bytes words contents }) ≡ Ok (new_key words (length contents))
  pub zeros : ℕ
  pub few : zeros < 4
  pub contents_are : drop (key_size words) (record_bytes words contents) ≡ contents ++ replicate zeros 0
  pub whole : IsRecord words.place (record_bytes words contents)

-- whatever its words and its data are, where they fit their fields
abbrev pub AreNewRecords : Type 0
AreNewRecords = (words : KeyWords) (contents : List ℕ) → FitsWords words (length contents) → IsNewRecord words contents
