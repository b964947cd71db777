-- A closed file by the grammar of its parts: what stands where, and no order of reading.
use Rattle.std.specs.Prelude.{◌≡◌, ◌≢◌, ◌⊎◌, ℕ, ◌≤◌, List, [], length, drop, Ok}
use Rattle.rio_num.specs.{At.{AreBytes}, Plain.{IsSpelledIn}}
use Rattle.rio_key.specs.{declared.head.KeyHead.{KeyHead}, Key.{SpellsKey}, KeyList.{SpellsKeyList}}
use Rattle.rio_head.specs.{Head.{BeginsAsHead}, Dir.{BeginsAsDir}}
use Rattle.rio_dir.specs.{declared.closed.Closed.{Closed}, Closed.{closed_file, data_at, dir_place}, Listing.{key_lines}}

-- at this place a key is spelled, and in the data of its record these heads
pub record IsKeyList (file : List ℕ) (place : ℕ) (keys : List KeyHead) : Type 0 where
  pub somewhere : place ≢ 0
  pub key : KeyHead
  pub key_spelled : IsSpelledIn (SpellsKey key) (drop place file)
  pub list_spelled : IsSpelledIn (SpellsKeyList keys) (data_at file place key).rest

-- the heads of the key list at a place, where 0 stands for no list
abbrev pub HasKeys : List ℕ → ℕ → List KeyHead → Type 0
HasKeys file place keys = ((place ≡ 0) × (keys ≡ [])) ⊎ IsKeyList file place keys

-- A file of these bytes is closed: header, directory record and key list stand where each says the next, and END is within.
pub record IsClosedFile (file : List ℕ) (closed : Closed) : Type 0 where
  pub head : BeginsAsHead closed.head file
  pub end : closed.head.end ≤ length file
  pub dir : BeginsAsDir closed.dir (drop (dir_place closed.head) file)
  pub keys : HasKeys file closed.dir.seek_keys closed.keys

-- what is read of a file is spelled there
abbrev pub ClosedIsSpelled : Type 0
ClosedIsSpelled = (file : List ℕ) (closed : Closed) → AreBytes file → closed_file file ≡ Ok closed → IsClosedFile file closed

-- what is spelled in a file is read
abbrev pub SpelledIsClosed : Type 0
SpelledIsClosed = (file : List ℕ) (closed : Closed) → IsClosedFile file closed → closed_file file ≡ Ok closed

-- a file is closed in one way, so it has one listing
abbrev pub IsListedOnce : Type 0
IsListedOnce = (file : List ℕ) (a b : Closed) → IsClosedFile file a → IsClosedFile file b → (a ≡ b) × (key_lines a.keys ≡ key_lines b.keys)
