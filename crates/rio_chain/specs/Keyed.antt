-- The keys of a file's records, as a walk finds them beside the segments.
use Rattle.std.specs.Prelude.{◌≡◌, ℕ, List, [], ◌∷◌, codes, length, Option, Some, None}
use Rattle.rio_num.specs.Plain.{IsSpelledIn}
use Rattle.rio_host.specs.Image.{Has}
use Rattle.rio_key.specs.{Key.{SpellsKey}, declared.head.KeyHead.{KeyHead}}
use Rattle.rio_chain.specs.{declared.segment.Segment.{Segment, TheVariants.{Record, Gap}}, Found.{IsKeyOf, IsShortKey}}

-- a key that tells a record of n bytes at a place, and that can be written
abbrev pub IsRecordKey : ℕ → ℕ → KeyHead → Type 0
IsRecordKey place n head = IsKeyOf place n head × IsShortKey head

-- the key at place 100 is that of a first record
abbrev pub IsFirstKey : ℕ → KeyHead → Type 0
IsFirstKey place head = place ≡ 100 → head.class ≡ codes "TFile"

-- a key as a walk finds it
abbrev pub IsWalkedKey : ℕ → ℕ → KeyHead → Type 0
IsWalkedKey place n head = IsRecordKey place n head × IsFirstKey place head

-- the n bytes of the file at a place begin with this key
abbrev pub HasKeyAt : KeyHead → ℕ → ℕ → List ℕ → Type 0
HasKeyAt head place n file = (bytes : List ℕ) → length bytes ≡ n → Has file place bytes → IsSpelledIn (SpellsKey head) bytes

-- a record has a key of which this holds, and a gap has none
abbrev pub IsKeyed : (ℕ → ℕ → KeyHead → Type 0) → Segment → Option KeyHead → Type 0
IsKeyed Holds (Record place n) (Some head) = Holds place n head
IsKeyed Holds (Record place n) None = ⊥
IsKeyed Holds (Gap place n) (Some head) = ⊥
IsKeyed Holds (Gap place n) None = Unit {0}

-- the keys are those of the records among the segments, in order, and this holds of each
abbrev pub AreKeyed : (ℕ → ℕ → KeyHead → Type 0) → List Segment → List KeyHead → Type 0
AreKeyed Holds [] [] = Unit {0}
AreKeyed Holds [] (head ∷ heads) = ⊥
AreKeyed Holds (Record place n ∷ segments) [] = ⊥
AreKeyed Holds (Record place n ∷ segments) (head ∷ heads) = Holds place n head × AreKeyed Holds segments heads
AreKeyed Holds (Gap place n ∷ segments) heads = AreKeyed Holds segments heads

-- the keys that were found with a segment: one or none
abbrev pub keys_in : Option KeyHead → List KeyHead
keys_in (Some head) = head ∷ []
keys_in None = []
