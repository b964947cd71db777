-- What is found at a place of a file.
use Rattle.std.specs.Prelude.{◌≡◌, ℕ, ◌+◌, ◌-◌, ◌^◌, ◌<◌, ◌≤◌, nat_lt, if◌then◌else◌, pos, codes, Bool, MatchBool, List, length, Option, Some, None, IfSome, Result, Ok, Err}
use Rattle.byteorder.specs.Endian.{big_number}
use Rattle.rio_num.specs.{At.{At}, Plain.{IsSpelledIn}}
use Rattle.rio_host.specs.{Image.{Has}, Host.{View}, Reading.{FindsWord, HasWord, Told}}
use Rattle.rio_key.specs.{Key.{SpellsKey}, Written.{FitsKey, written_key}, declared.head.KeyHead.{KeyHead}}
use Rattle.rio_chain.specs.declared.segment.Segment.{Segment, TheVariants.{Record, Gap}}
use Rattle.rio_chain.specs.declared.fault.WalkFault.{WalkFault, TheVariants.{NoChain, NoMemory, HostFault}}
use Rattle.rio_chain.specs.Segments.{Link, link_length, segment_of, texts_end_at, HoldsRecord, HoldsGap, HoldsLink, IsFirst, IsPositive, IsRecord}

-- the key that begins some bytes
pub record FindsKey (bytes : List ℕ) (found : Option KeyHead) : Type 0 where
  pub found_is : IfSome found (λ head. IsSpelledIn (SpellsKey head) bytes)
  pub only : (head : KeyHead) → IsSpelledIn (SpellsKey head) bytes → found ≡ Some head

-- a key that is no longer, written, than a key's length can say
pub record IsShortKey (h : KeyHead) : Type 0 where
  pub fits : FitsKey h
  pub size : length (written_key h) < 2 ^ 16

-- the key that begins the n bytes at a place
abbrev pub FindsKeyAt : ℕ → ℕ → Option KeyHead → List ℕ → Type 0
FindsKeyAt place n found file = (bytes : List ℕ) → length bytes ≡ n → Has file place bytes → FindsKey bytes found

-- a function that calls no host, and finds no fault
abbrev pub IsMemoryCause : {X : Type 0} → Result X WalkFault → Type 0
IsMemoryCause (Ok x) = Unit {0}
IsMemoryCause (Err (NoChain place)) = ⊥
IsMemoryCause (Err NoMemory) = Unit {0}
IsMemoryCause (Err HostFault) = ⊥

-- ---- records

-- the key of a record of n bytes at a place
abbrev pub IsKeyOf : ℕ → ℕ → KeyHead → Type 0
IsKeyOf place n head = (head.version ≤ 1000) × (head.seek ≡ place) × (head.nbytes ≡ pos n) × (head.keylen + head.objlen ≡ n)

-- the n bytes at a place are a whole record, or they are none
abbrev pub FindsRecord : ℕ → ℕ → Bool → List ℕ → Type 0
FindsRecord place n whole file = (bytes : List ℕ) → length bytes ≡ n → Has file place bytes → MatchBool whole (IsRecord place bytes) (¬ IsRecord place bytes)

-- a directory record stands there, and this is where the header says it does
abbrev pub IsDirectory : Option ℕ → At → Type 0
IsDirectory nbytes_name directory = (60 ≤ length directory.rest) × (big_number 2 directory.rest ≤ 1000) × (nbytes_name ≡ Some directory.place)

-- the first record's data, where this is its key
abbrev pub IsFirstBy : Option ℕ → KeyHead → List ℕ → Type 0
IsFirstBy nbytes_name head bytes = (head.class ≡ codes "TFile") × ((directory : At) × (texts_end_at head.keylen bytes ≡ Ok directory) × IsDirectory nbytes_name directory)

-- ---- segments

-- the word of a record, or of a gap behind the first segment
abbrev pub IsKindOf : ℕ → ℕ → Segment → Type 0
IsKindOf place word (Record p n) = word < 2 ^ 31
IsKindOf place word (Gap p n) = (2 ^ 31 ≤ word) × (100 < place)

-- neither a gap's word nor END's
abbrev pub IsNoGap : Option ℕ → Type 0
IsNoGap (Some word) = IsPositive word
IsNoGap None = Unit {0}

-- a record, or a gap where neither a gap nor END stands behind it
abbrev pub FindsSegment : ℕ → Segment → List ℕ → Type 0
FindsSegment place (Record p n) file = (bytes : List ℕ) × (length bytes ≡ n) × HoldsRecord file place bytes
FindsSegment place (Gap p n) file = ((word : ℕ) → HasWord file (place + n) word → IsPositive word) → HoldsGap file place n

-- a fault of the chain is at this place, where no segment stands
abbrev pub TellsNoLink : View → ℕ → WalkFault → Type 0
TellsNoLink v place (NoChain p) = (p ≡ place) × Told v (λ file. (link : Link) → ¬ HoldsLink file place link)
TellsNoLink v place NoMemory = Unit {0}
TellsNoLink v place HostFault = Unit {0}

-- the segment at a place, and the word behind it
abbrev pub FindsLink : ℕ → Segment → Option ℕ → List ℕ → Type 0
FindsLink place segment behind file = (link : Link) × HoldsLink file place link × (segment ≡ segment_of link) × FindsWord (place + link_length link) behind file

-- no gap's word stands behind a gap
abbrev pub MayPrecede : Segment → Option ℕ → Type 0
MayPrecede (Record p n) behind = Unit {0}
MayPrecede (Gap p n) behind = IsNoGap behind

-- how long the segment of a word is: negative ones are gaps
abbrev pub segment_length_of : ℕ → ℕ
segment_length_of word = if nat_lt word 2147483648 then word else 2 ^ 32 - word

-- the n bytes at a place are a whole record, and at place 100 a first one
abbrev pub FindsWhole : ℕ → ℕ → Bool → List ℕ → Type 0
FindsWhole place n whole file = (bytes : List ℕ) → length bytes ≡ n → Has file place bytes → MatchBool whole (IsRecord place bytes × (place ≡ 100 → IsFirst file bytes)) (¬ HoldsRecord file place bytes)
