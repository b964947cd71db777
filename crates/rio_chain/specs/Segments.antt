-- The segments of a file: records and gaps from place 100 to END, or the place where they break.
use Rattle.std.specs.Prelude.{◌≡◌, ℕ, ◌+◌, ◌-◌, ◌%◌, ◌^◌, ◌<◌, ◌≤◌, List, [], ◌∷◌, codes, length, map, pos, Result, Ok}
use Rattle.byteorder.specs.Endian.{big_number}
use Rattle.rio_num.specs.{At.{At, standing_at}, Reading.{◌>>=◌, text_at}, declared.cursor.Short.{Short}, Plain.{IsSpelledIn}}
use Rattle.rio_host.specs.Image.{Has}
pub use Rattle.rio_host.specs.Reading.{HasWord}
use Rattle.rio_key.specs.{Key.{SpellsKey}, declared.head.KeyHead.{KeyHead}}
use Rattle.rio_chain.specs.declared.segment.Segment.{Segment, TheVariants.{Record, Gap}}

-- A segment with what it holds: a record with its place and its bytes, those of its length word first; a gap with its place and
-- its length.
pub data Link : Type 0 where
  RecordAt : (place : ℕ) (bytes : List ℕ) → Link
  GapAt : (place length : ℕ) → Link

-- how many bytes it takes
abbrev pub link_length : Link → ℕ
link_length (RecordAt place bytes) = length bytes
link_length (GapAt place length) = length

-- the segment without what it holds
abbrev pub segment_of : Link → Segment
segment_of (RecordAt place bytes) = Record place (length bytes)
segment_of (GapAt place length) = Gap place length

-- where links that begin at this place end
abbrev pub end_from : ℕ → List Link → ℕ
end_from place [] = place
end_from place (link ∷ links) = end_from (place + link_length link) links

-- END: where the links from place 100 on end
abbrev pub chain_end : List Link → ℕ
chain_end links = end_from 100 links

-- ---- words

-- a word that is a record's length, and neither a gap's nor END's
abbrev pub IsPositive : ℕ → Type 0
IsPositive word = (0 < word) × (word < 2 ^ 31)

-- ---- records

-- These bytes are a whole record for this place: a small key stands first in them, which says this place, and as length of key
-- and data, and of the record, how many they are.
pub record IsRecord (place : ℕ) (bytes : List ℕ) : Type 0 where
  pub head : KeyHead
  pub key : IsSpelledIn (SpellsKey head) bytes
  pub small : head.version ≤ 1000
  pub seek : head.seek ≡ place
  pub nbytes : head.nbytes ≡ pos (length bytes)
  pub parts : head.keylen + head.objlen ≡ length bytes
  pub aligned : length bytes % 4 ≡ 0

-- where two texts end, which the data behind a key of this length begin with
unfoldable pub texts_end_at : ℕ → List ℕ → Result At Short
texts_end_at keylen bytes = do
  name ← text_at (standing_at 0 keylen bytes)
  title ← text_at name.1
  Ok title.1

-- These bytes are a file's first record: of class TFile, with two texts and a small directory record as data. The header says
-- how long the key and the two texts are.
pub record IsFirst (file bytes : List ℕ) : Type 0 where
  pub head : KeyHead
  pub key : IsSpelledIn (SpellsKey head) bytes
  pub class : head.class ≡ codes "TFile"
  pub directory : At
  pub texts : texts_end_at head.keylen bytes ≡ Ok directory
  pub room : 60 ≤ length directory.rest
  pub small : big_number 2 directory.rest ≤ 1000
  pub nbytes_name : HasWord file 28 directory.place

-- ---- what stands at a place

-- a record, which is the file's first at place 100
pub record HoldsRecord (file : List ℕ) (place : ℕ) (bytes : List ℕ) : Type 0 where
  pub there : Has file place bytes
  pub whole : IsRecord place bytes
  pub first : place ≡ 100 → IsFirst file bytes

-- a gap: its word is negative, and neither a gap nor END stands behind it
pub record HoldsGap (file : List ℕ) (place n : ℕ) : Type 0 where
  pub later : 100 < place
  pub word : HasWord file place (2 ^ 32 - n)
  pub some : 4 ≤ n
  pub small : n ≤ 2 ^ 31
  pub aligned : n % 4 ≡ 0
  pub within : place + n ≤ length file
  pub alone : (word : ℕ) → HasWord file (place + n) word → IsPositive word

-- the segment
abbrev pub HoldsLink : List ℕ → ℕ → Link → Type 0
HoldsLink file place (RecordAt p bytes) = (p ≡ place) × HoldsRecord file place bytes
HoldsLink file place (GapAt p n) = (p ≡ place) × HoldsGap file place n

-- END: a zero word
pub record HoldsEnd (file : List ℕ) (place : ℕ) : Type 0 where
  pub later : 100 < place
  pub zero_word : HasWord file place 0

-- ---- the whole file

-- one behind the other from this place on
abbrev pub HoldsLinks : List ℕ → ℕ → List Link → Type 0
HoldsLinks file place [] = Unit {0}
HoldsLinks file place (link ∷ links) = HoldsLink file place link × HoldsLinks file (place + link_length link) links

-- these are the file's segments
pub record IsChain (links : List Link) (file : List ℕ) : Type 0 where
  pub links_are : HoldsLinks file 100 links
  pub ends : HoldsEnd file (chain_end links)

-- the chain breaks at this place: segments stand up to it, and there neither a segment nor END
pub record BreaksAt (place : ℕ) (file : List ℕ) : Type 0 where
  pub before : List Link
  pub links_are : HoldsLinks file 100 before
  pub reached : place ≡ chain_end before
  pub no_link : (link : Link) → ¬ HoldsLink file place link
  pub no_end : ¬ HoldsEnd file place

-- a file of these segments
abbrev pub HasSegments : List ℕ → List Segment → Type 0
HasSegments file segments = (links : List Link) × IsChain links file × (segments ≡ map segment_of links)
