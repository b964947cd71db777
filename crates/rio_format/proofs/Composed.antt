-- How bytes are put together that spell an object, by cases on the value: what the proofs about the written form hand in.
use Rattle.std.specs.Prelude.{◌≡◌, ◌⊎◌, ℕ, zero, suc, ◌+◌, ◌-◌, ◌^◌, ◌<◌, ℤ, pos, List, [], ◌∷◌, ◌++◌, length, replicate, codes, Option, Some, None, nat_eq, Bool, true, false, position}
use Rattle.std.specs.Map.{lookup}
use Rattle.byteorder.specs.Endian.{big_bytes}
use Rattle.rio_num.specs.{Text.{SpellsText}, Meanings.{HasNoZero}}
use Rattle.rio_format.specs.{declared.class.ClassDef.{ClassDef}, declared.class.Member.{Member}, declared.kind.Kind.{Kind, TheVariants.{Plain, Counter, Fixed, Counted, Text as Texted, Inline, Pointer, Other}}}
use Rattle.rio_format.specs.{declared.kind.Primitive.{Primitive, TheVariants.{I32}}, declared.value.Value.{Value, Text, List as Items, Object, Pointed, Null, Back, Opaque}, declared.value.Part.{Part}}
use Rattle.rio_format.specs.Bodies.{part, Form, bare, numbers, headed, form_of, Body, described, listed, arrayed, opaque, body_of, slots_of, Counters, counters_with, count_by}
use Rattle.rio_format.specs.{Objects.{has_pid, bare_object, pid_part}, Prims.{width_of, value_of_prim}, Frames.{is_count}, ReaderState.{WordsMet, with_label, with_name}}

-- Bytes whose first has the place, behind these words, spell this value, and these words stand before what follows.
abbrev pub Spelling : Type 0 → Type 1
Spelling Y = ℕ → WordsMet → Y → List ℕ → WordsMet → Type 0

-- how an object of a class is spelled
abbrev pub Spellings : Type 1
Spellings = List ℕ → Spelling Value

-- ---- one thing after the other

-- the first, and then the others
pub record IsMore {S Y : Type 0} (one : ℕ → S → Y → List ℕ → S → Type 0) (rest : ℕ → S → List Y → List ℕ → S → Type 0) (p : ℕ) (s : S) (ys : List Y) (bytes : List ℕ) (s' : S) : Type 0 where
  pub y : Y
  pub more : List Y
  pub front : List ℕ
  pub back : List ℕ
  pub s1 : S
  pub values : ys ≡ y ∷ more
  pub first : one p s y front s1
  pub others : rest (p + length front) s1 more back s'
  pub spelled : bytes ≡ front ++ back

-- for each of a list, in order
abbrev pub SpellsEach : {X S Y : Type 0} → (X → ℕ → S → Y → List ℕ → S → Type 0) → List X → ℕ → S → List Y → List ℕ → S → Type 0
SpellsEach one [] p s ys bytes s' = (ys ≡ []) × (bytes ≡ []) × (s' ≡ s)
SpellsEach one (x ∷ xs) p s ys bytes s' = IsMore (one x) (SpellsEach one xs) p s ys bytes s'

-- so many values, each spelled in the same way
abbrev pub SpellsTimes : ℕ → Spelling Value → Spelling (List Value)
SpellsTimes n one p t ys bytes t' = SpellsEach (λ (x : Unit {0}). one) (replicate n tt) p t ys bytes t'

-- ---- numbers and texts

-- the value of a number in as many bytes as the kind has: any but 0 for true
pub record IsNumber (of : Primitive) (t : WordsMet) (v : Value) (bytes : List ℕ) (t' : WordsMet) : Type 0 where
  pub n : ℕ
  pub fits : n < 256 ^ width_of of
  pub value : v ≡ value_of_prim of n
  pub spelled : bytes ≡ big_bytes (width_of of) n
  pub words : t' ≡ t

abbrev pub SpellsNumber : Primitive → Spelling Value
SpellsNumber of p t v bytes t' = IsNumber of t v bytes t'

pub record IsNumbers (of : Primitive) (count p : ℕ) (t : WordsMet) (v : Value) (bytes : List ℕ) (t' : WordsMet) : Type 0 where
  pub items : List Value
  pub value : v ≡ Items items
  pub each : SpellsTimes count (SpellsNumber of) p t items bytes t'

abbrev pub SpellsNumbers : Primitive → ℕ → Spelling Value
SpellsNumbers of count p t v bytes t' = IsNumbers of count p t v bytes t'

pub record IsText (t : WordsMet) (v : Value) (bytes : List ℕ) (t' : WordsMet) : Type 0 where
  pub text : List ℕ
  pub value : v ≡ Text text
  pub spelled : SpellsText text bytes
  pub words : t' ≡ t

-- ---- counted arrays

-- the byte 0: nothing, whatever the counter says
pub record IsNone (t : WordsMet) (v : Value) (bytes : List ℕ) (t' : WordsMet) : Type 0 where
  pub value : v ≡ Items []
  pub spelled : bytes ≡ 0 ∷ []
  pub words : t' ≡ t

-- the byte 1, and as many values as the counter says
pub record IsFilled (of : Primitive) (counter : ℤ) (p : ℕ) (t : WordsMet) (v : Value) (bytes : List ℕ) (t' : WordsMet) : Type 0 where
  pub count : ℕ
  pub inner : List ℕ
  pub counted : counter ≡ pos count
  pub values : SpellsNumbers of count (p + 1) t v inner t'
  pub spelled : bytes ≡ 1 ∷ inner

abbrev pub SpellsCounted : Primitive → ℤ → Spelling Value
SpellsCounted of counter p t v bytes t' = IsNone t v bytes t' ⊎ IsFilled of counter p t v bytes t'

-- ---- pointers

-- a class word that spells the name out
pub record IsNewClass (p : ℕ) (t : WordsMet) (name bytes : List ℕ) (t' : WordsMet) : Type 0 where
  pub plain : HasNoZero name
  pub spelled : bytes ≡ big_bytes 4 (2 ^ 32 - 1) ++ (name ++ 0 ∷ [])
  pub words : t' ≡ with_name t p name

-- a class word that gives the place of an earlier one, and 2 more, with the highest bit
pub record IsKnownClass (t : WordsMet) (name bytes : List ℕ) (t' : WordsMet) : Type 0 where
  pub place : ℕ
  pub known : lookup (nat_eq place) t.names ≡ Some name
  pub low : place + (2 ^ 31 + 2) < 2 ^ 32 - 1
  pub spelled : bytes ≡ big_bytes 4 (place + (2 ^ 31 + 2))
  pub words : t' ≡ t

abbrev pub SpellsClass : Spelling (List ℕ)
SpellsClass p t name bytes t' = IsNewClass p t name bytes t' ⊎ IsKnownClass t name bytes t'

pub record IsNull (t : WordsMet) (v : Value) (bytes : List ℕ) (t' : WordsMet) : Type 0 where
  pub value : v ≡ Null
  pub spelled : bytes ≡ big_bytes 4 0
  pub words : t' ≡ t

-- the place of an earlier object's count word, and 2 more
pub record IsBack (t : WordsMet) (v : Value) (bytes : List ℕ) (t' : WordsMet) : Type 0 where
  pub label : ℕ
  pub place : ℕ
  pub value : v ≡ Back label
  pub known : position (nat_eq place) t.labels ≡ Some label
  pub low : place + 2 < 2 ^ 32
  pub reference : is_count (place + 2) ≡ false
  pub spelled : bytes ≡ big_bytes 4 (place + 2)
  pub words : t' ≡ t

-- a byte count, a class word and an object of this class, which may be referred to from its class word on
pub record IsNew (object : Spellings) (p : ℕ) (t : WordsMet) (v : Value) (bytes : List ℕ) (t' : WordsMet) : Type 0 where
  pub inner : Value
  pub name : List ℕ
  pub class_bytes : List ℕ
  pub object_bytes : List ℕ
  pub t1 : WordsMet
  pub value : v ≡ Pointed (length t1.labels) inner
  pub class : SpellsClass (p + 4) t name class_bytes t1
  pub inside : object name (p + 4 + length class_bytes) (with_label t1 p) inner object_bytes t'
  pub count : length (class_bytes ++ object_bytes) < 2 ^ 30
  pub spelled : bytes ≡ big_bytes 4 (length (class_bytes ++ object_bytes) + 2 ^ 30) ++ (class_bytes ++ object_bytes)

abbrev pub SpellsPointer : Spellings → Spelling Value
SpellsPointer object p t v bytes t' = IsNull t v bytes t' ⊎ IsBack t v bytes t' ⊎ IsNew object p t v bytes t'

-- ---- members

-- a value of the kind, behind these counters
abbrev pub SpellsKind : Spellings → Counters → Kind → Spelling Value
SpellsKind object counters (Plain of) p t v bytes t' = SpellsNumber of p t v bytes t'
SpellsKind object counters Counter p t v bytes t' = SpellsNumber I32 p t v bytes t'
SpellsKind object counters (Fixed of count) p t v bytes t' = SpellsNumbers of count p t v bytes t'
SpellsKind object counters (Counted of counter) p t v bytes t' = SpellsCounted of (count_by counter counters) p t v bytes t'
SpellsKind object counters Texted p t v bytes t' = IsText t v bytes t'
SpellsKind object counters (Inline class) p t v bytes t' = object class p t v bytes t'
SpellsKind object counters (Pointer class) p t v bytes t' = SpellsPointer object p t v bytes t'
SpellsKind object counters (Other code) p t v bytes t' = ⊥

-- a part of an object: the member's name and a value of its kind
pub record IsPart (object : Spellings) (m : Member) (p : ℕ) (s : WordsMet × Counters) (y : Part) (bytes : List ℕ) (s' : WordsMet × Counters) : Type 0 where
  pub v : Value
  pub part : y ≡ part m.name v
  pub value : SpellsKind object s.1 m.kind p s.0 v bytes s'.0
  pub counters : s'.1 ≡ counters_with m v s.1

-- the bases and then the members of an object, in order
pub record IsParts (object : Spellings) (c : ClassDef) (p : ℕ) (t : WordsMet) (parts : List Part) (bytes : List ℕ) (t' : WordsMet) : Type 0 where
  pub counters : Counters
  pub each : SpellsEach (IsPart object) (slots_of c) p (t, []) parts bytes (t', counters)

-- ---- built-in classes

-- an item of a TList: a pointer and an option text
pub record IsLink (object : Spellings) (p : ℕ) (t : WordsMet) (v : Value) (bytes : List ℕ) (t' : WordsMet) : Type 0 where
  pub pointer : Value
  pub option : List ℕ
  pub pointer_bytes : List ℕ
  pub option_bytes : List ℕ
  pub value : v ≡ Items (pointer ∷ Text option ∷ [])
  pub first : SpellsPointer object p t pointer pointer_bytes t'
  pub second : SpellsText option option_bytes
  pub spelled : bytes ≡ pointer_bytes ++ option_bytes

-- the parts of a TList
pub record IsListParts (object : Spellings) (p : ℕ) (t : WordsMet) (parts : List Part) (bytes : List ℕ) (t' : WordsMet) : Type 0 where
  pub base : Value
  pub name : List ℕ
  pub count : ℕ
  pub items : List Value
  pub base_bytes : List ℕ
  pub name_bytes : List ℕ
  pub item_bytes : List ℕ
  pub t1 : WordsMet
  pub value : parts ≡ part [] base ∷ part (codes "fName") (Text name) ∷ part (codes "items") (Items items) ∷ []
  pub based : object (codes "TObject") p t base base_bytes t1
  pub named : SpellsText name name_bytes
  pub low : count < 2 ^ 31
  pub each : SpellsTimes count (IsLink object) (p + length base_bytes + length name_bytes + 4) t1 items item_bytes t'
  pub spelled : bytes ≡ base_bytes ++ (name_bytes ++ (big_bytes 4 count ++ item_bytes))

-- the parts of a TObjArray
pub record IsArrayParts (object : Spellings) (p : ℕ) (t : WordsMet) (parts : List Part) (bytes : List ℕ) (t' : WordsMet) : Type 0 where
  pub base : Value
  pub name : List ℕ
  pub count : ℕ
  pub lower : Value
  pub items : List Value
  pub base_bytes : List ℕ
  pub name_bytes : List ℕ
  pub lower_bytes : List ℕ
  pub item_bytes : List ℕ
  pub t1 : WordsMet
  pub value : parts ≡ part [] base ∷ part (codes "fName") (Text name) ∷ part (codes "fLowerBound") lower ∷ part (codes "items") (Items items) ∷ []
  pub based : object (codes "TObject") p t base base_bytes t1
  pub named : SpellsText name name_bytes
  pub low : count < 2 ^ 31
  pub bound : SpellsNumber I32 (p + length base_bytes + length name_bytes + 4) t1 lower lower_bytes t1
  pub each : SpellsTimes count (SpellsPointer object) (p + length base_bytes + length name_bytes + 8) t1 items item_bytes t'
  pub spelled : bytes ≡ base_bytes ++ (name_bytes ++ (big_bytes 4 count ++ (lower_bytes ++ item_bytes)))

-- fPid, which stands only where bit 4 of fBits does
abbrev pub SpellsPid : Bool → List Part → List ℕ → Type 0
SpellsPid true parts bytes = (pid : ℕ) × (pid < 2 ^ 16) × (parts ≡ pid_part pid ∷ []) × (bytes ≡ big_bytes 2 pid)
SpellsPid false parts bytes = (parts ≡ []) × (bytes ≡ [])

-- a TObject, which has no byte count
pub record IsBare (t : WordsMet) (v : Value) (bytes : List ℕ) (t' : WordsMet) : Type 0 where
  pub id : ℕ
  pub bits : ℕ
  pub pid : List Part
  pub pid_bytes : List ℕ
  pub value : v ≡ bare_object id bits pid
  pub id_fits : id < 2 ^ 32
  pub bits_fit : bits < 2 ^ 32
  pub pid_fits : SpellsPid (has_pid bits) pid pid_bytes
  pub spelled : bytes ≡ big_bytes 2 1 ++ (big_bytes 4 id ++ (big_bytes 4 bits ++ pid_bytes))
  pub words : t' ≡ t

-- a TArray of a class, which is a count and its numbers
pub record IsArray (class : List ℕ) (of : Primitive) (p : ℕ) (t : WordsMet) (v : Value) (bytes : List ℕ) (t' : WordsMet) : Type 0 where
  pub count : ℕ
  pub items : Value
  pub item_bytes : List ℕ
  pub value : v ≡ Object class (pos 1) (part (codes "items") items ∷ [])
  pub low : count < 2 ^ 31
  pub each : SpellsNumbers of count (p + 4) t items item_bytes t'
  pub spelled : bytes ≡ big_bytes 4 count ++ item_bytes

-- ---- objects

-- the version of a header, or version 0 with a checksum
abbrev pub SpellsVersion : ℕ → Option ℕ → List ℕ → Type 0
SpellsVersion version None bytes = (0 < version) × (version < 2 ^ 16) × (bytes ≡ big_bytes 2 version)
SpellsVersion version (Some sum) bytes = (version ≡ 0) × (sum < 2 ^ 32) × (bytes ≡ big_bytes 2 0 ++ big_bytes 4 sum)

-- an object of a class in this version, by its parts
pub record IsWhole (class : List ℕ) (version : ℤ) (parts_are : Spelling (List Part)) (p : ℕ) (t : WordsMet) (v : Value) (bytes : List ℕ) (t' : WordsMet) : Type 0 where
  pub parts : List Part
  pub value : v ≡ Object class version parts
  pub inside : parts_are p t parts bytes t'

-- what stands behind a header whose count is given: an opaque object has any bytes
abbrev pub SpellsBody : Spellings → List ℕ → ℕ → Body → Spelling Value
SpellsBody object class count (described c) p t v bytes t' = IsWhole class c.version (IsParts object c) p t v bytes t'
SpellsBody object class count listed p t v bytes t' = IsWhole class (pos 5) (IsListParts object) p t v bytes t'
SpellsBody object class count arrayed p t v bytes t' = IsWhole class (pos 3) (IsArrayParts object) p t v bytes t'
SpellsBody object class count opaque p t v bytes t' = (v ≡ Opaque class count) × (t' ≡ t)

-- an object with a header: the count of all behind it, a version, and the body that this version has
pub record IsHeaded (object : Spellings) (classes : List ClassDef) (class : List ℕ) (p : ℕ) (t : WordsMet) (v : Value) (bytes : List ℕ) (t' : WordsMet) : Type 0 where
  pub version : ℕ
  pub sum : Option ℕ
  pub version_bytes : List ℕ
  pub inner : List ℕ
  pub stated : SpellsVersion version sum version_bytes
  pub body : SpellsBody object class (length (version_bytes ++ inner)) (body_of classes class (pos version) sum) (p + 4 + length version_bytes) t v inner t'
  pub count : length (version_bytes ++ inner) < 2 ^ 30
  pub spelled : bytes ≡ big_bytes 4 (length (version_bytes ++ inner) + 2 ^ 30) ++ (version_bytes ++ inner)

abbrev pub SpellsForm : Spellings → List ClassDef → List ℕ → Form → Spelling Value
SpellsForm object classes class bare p t v bytes t' = IsBare t v bytes t'
SpellsForm object classes class (numbers of) p t v bytes t' = IsArray class of p t v bytes t'
SpellsForm object classes class headed p t v bytes t' = IsHeaded object classes class p t v bytes t'

-- an object of the class, with at most so many levels of objects
unfoldable pub Composes : ℕ → List ClassDef → Spellings
Composes zero classes class p t v bytes t' = ⊥
Composes (suc levels) classes class p t v bytes t' = SpellsForm (Composes levels classes) classes class (form_of class) p t v bytes t'
