-- Objects in bytes. Each rule stands here once; the meanings of descriptions say how it is read, spelled and broken.
use Rattle.std.specs.Prelude.{◌==◌, not, ℕ, zero, suc, ◌+◌, ◌-◌, ◌*◌, ◌^◌, ℤ, pos, negsuc, List, [], ◌∷◌, ◌++◌, length, codes, Result, Ok, Err, nat_lt, nat_le, bit_and, Bool}
use Rattle.rio_format.specs.{declared.class.Base.{Base}, declared.class.ClassDef.{ClassDef}, declared.class.Member.{Member}}
use Rattle.rio_format.specs.{declared.kind.Kind.{Kind, TheVariants.{Plain, Counter, Fixed, Counted, Text as Texted, Inline, Pointer, Other}}, declared.kind.Primitive.{Primitive, TheVariants.{I32}}}
use Rattle.rio_format.specs.{declared.value.Value.{Value, Int, Text, List as Items, Object, Pointed, Null as Nothing, Back as Earlier, Opaque}, declared.value.Part.{Part}}
use Rattle.rio_num.specs.{Layout.{done, broken, number, text, any, here, reaches, must, each, times, ◌>>=◌, when◌then◌else◌}, Meanings.{read, Spells, Breaks}}
use Rattle.rio_format.specs.{ReaderState.{WordsMet, no_words, standing}, Frames.{Step, ObjLayout, finish, header, pointer_word}, declared.words.Header.{Header}}
use Rattle.rio_format.specs.{declared.words.PointerWord.{PointerWord, TheVariants.{Null, New, Back}}, declared.fault.ObjFault.{ObjFault, TheVariants.{Short, BadCount, NoCount, BadFlag, CountMismatch, TooDeep}}}
use Rattle.rio_format.specs.Bodies.{part, Form, bare, numbers as numbered, headed as with_header, form_of, Body, described, listed, arrayed, opaque, body_of, Counters, counters_with, count_by}
use Rattle.rio_format.specs.Prims.{width_of, value_of_prim}

-- how an object of each class is read; the objects in an object are read by what is handed down to it, one level less deep
abbrev pub Objects : Type 1
Objects = List ℕ → ObjLayout Value

-- ---- pointers

-- what a pointer's word stands for: nothing, an earlier object, or the object behind it, as far as its count says
unfoldable pub pointed : Objects → PointerWord → ObjLayout Value
pointed object Null = done Nothing
pointed object (Back label) = done (Earlier label)
pointed object (New label place end class) = do
  o ← object class
  _ ← finish place end
  done (Pointed label o)

unfoldable pub pointer : Objects → ObjLayout Value
pointer object = do
  w ← pointer_word
  pointed object w

-- ---- members

unfoldable pub number_value : Primitive → ObjLayout Value
number_value prim = do
  n ← number Short (width_of prim)
  done (value_of_prim prim n)

unfoldable pub numbers : Primitive → ℕ → ObjLayout Value
numbers prim count = do
  vs ← times count (number_value prim)
  done (Items vs)

-- as many values as a counter said, behind the byte 1 at the place; a number below 0 is no count
abbrev pub filled : Primitive → ℕ → ℤ → ObjLayout Value
filled prim place (pos count) = numbers prim count
filled prim place (negsuc count) = broken (BadCount place)

-- the byte 0 for nothing, or the byte 1 and the values
unfoldable pub counted_values : Primitive → ℤ → ObjLayout Value
counted_values prim count = do
  place ← here
  flag ← number Short 1
  when flag == 0 then done (Items []) else when flag == 1 then filled prim place count else broken (BadFlag place)

unfoldable pub text_value : ObjLayout Value
text_value = do
  t ← text Short
  done (Text t)

-- A value of the kind, behind these counters. An object with a member of another kind is opaque, so no value of it is read, and
-- any fault would do.
unfoldable pub kind_value : Objects → Counters → Kind → ObjLayout Value
kind_value object counters (Plain prim) = number_value prim
kind_value object counters Counter = number_value I32
kind_value object counters (Fixed prim count) = numbers prim count
kind_value object counters (Counted prim counter) = counted_values prim (count_by counter counters)
kind_value object counters Texted = text_value
kind_value object counters (Inline class) = object class
kind_value object counters (Pointer class) = pointer object
kind_value object counters (Other code) = do place ← here; broken (NoCount place)

-- a part of an object, behind these counters
unfoldable pub member_part : Objects → Counters → Member → ObjLayout Part
member_part object counters m = do
  v ← kind_value object counters m.kind
  done (part m.name v)

unfoldable pub member_parts : Objects → Counters → List Member → ObjLayout (List Part)
member_parts object counters [] = done []
member_parts object counters (m ∷ ms) = do
  p ← member_part object counters m
  ps ← member_parts object (counters_with m p.value counters) ms
  done (p ∷ ps)

-- a base, by its name alone: in the version that its own bytes state, whatever the class declares
unfoldable pub base_part : Objects → Base → ObjLayout Part
base_part object b = do
  v ← object b.name
  done (part [] v)

-- bases in order, and behind them members in order, before which no counter was met
unfoldable pub parts : Objects → ClassDef → ObjLayout (List Part)
parts object c = do
  bs ← each (base_part object) c.bases
  ms ← member_parts object [] c.members
  done (bs ++ ms)

-- ---- built-in classes

-- A count of items, each of at least so many bytes: the data must have so many bytes for each of them behind the count.
unfoldable pub count_of : ℕ → ObjLayout ℕ
count_of width = do
  place ← here
  n ← number Short 4
  first ← here
  _ ← must (nat_lt n (2 ^ 31)) (BadCount place)
  _ ← reaches (first + n * width) (BadCount place)
  done n

-- the base that most of them have
abbrev pub base_object : Objects → ObjLayout Value
base_object object = object (codes "TObject")

-- an item of a TList: a pointer and an option text
unfoldable pub link : Objects → ObjLayout Value
link object = do
  p ← pointer object
  option ← text Short
  done (Items (p ∷ Text option ∷ []))

-- the parts of a TList; an item has at least the four bytes of a pointer's word
unfoldable pub list_parts : Objects → ObjLayout (List Part)
list_parts object = do
  b ← base_object object
  n ← text Short
  count ← count_of 4
  items ← times count (link object)
  done (part [] b ∷ part (codes "fName") (Text n) ∷ part (codes "items") (Items items) ∷ [])

-- the parts of a TObjArray; each of its pointers has at least four bytes
unfoldable pub array_parts : Objects → ObjLayout (List Part)
array_parts object = do
  b ← base_object object
  n ← text Short
  count ← count_of 4
  lower ← number_value I32
  items ← times count (pointer object)
  done (part [] b ∷ part (codes "fName") (Text n) ∷ part (codes "fLowerBound") lower ∷ part (codes "items") (Items items) ∷ [])

-- whether fBits has bit 4, which is 16: then fPid stands behind fBits
abbrev pub has_pid : ℕ → Bool
has_pid bits = not (bit_and bits 16 == 0)

-- a TObject of these numbers, and of fPid where it has one
abbrev pub bare_object : ℕ → ℕ → List Part → Value
bare_object id bits pid = Object (codes "TObject") (pos 1) (part (codes "fUniqueID") (Int (pos id)) ∷ part (codes "fBits") (Int (pos bits)) ∷ pid)

abbrev pub pid_part : ℕ → Part
pid_part pid = part (codes "fPid") (Int (pos pid))

-- fPid, where it stands
abbrev pub pid_of : ℕ → ObjLayout (List Part)
pid_of bits =
    when has_pid bits
    then (do pid ← number Short 2; done (pid_part pid ∷ []))
    else done []

-- a TObject, which has no byte count
unfoldable pub bare_layout : ObjLayout Value
bare_layout = do
  place ← here
  version ← number Short 2
  _ ← must (version == 1) (NoCount place)
  id ← number Short 4
  bits ← number Short 4
  pid ← pid_of bits
  done (bare_object id bits pid)

-- an object of one of the TArray classes, which is a count and so many numbers, without a header
unfoldable pub number_array : List ℕ → Primitive → ObjLayout Value
number_array class prim = do
  count ← count_of (width_of prim)
  items ← numbers prim count
  done (Object class (pos 1) (part (codes "items") items ∷ []))

-- ---- objects

-- an object of these parts, which end where the header's count says
unfoldable pub closed : List ℕ → ℤ → Header → List Part → ObjLayout Value
closed class version h ps = do
  _ ← finish h.place h.end
  done (Object class version ps)

-- an object of the parts that stand inside, behind its header
unfoldable pub whole_object : List ℕ → ℤ → Header → ObjLayout (List Part) → ObjLayout Value
whole_object class version h inside = do
  ps ← inside
  closed class version h ps

-- An object that isn't read, with how many bytes the header's count word counts: those of its version and checksum, which
-- were read, are among them, and those of the count word are not.
unfoldable pub unread : List ℕ → Header → ObjLayout Value
unread class h = do
  place ← here
  _ ← must (nat_le place h.end) (CountMismatch h.place (h.end - h.place - 4) (place - h.place - 4))
  _ ← any Short (h.end - place)
  done (Opaque class (h.end - h.place - 4))

-- an object behind its header, by what stands in it
unfoldable pub body : Objects → List ℕ → Header → Body → ObjLayout Value
body object class h (described c) = whole_object class c.version h (parts object c)
body object class h listed = whole_object class (pos 5) h (list_parts object)
body object class h arrayed = whole_object class (pos 3) h (array_parts object)
body object class h opaque = unread class h

-- an object that begins with a header, which picks what stands in it
unfoldable pub headed : Objects → List ClassDef → List ℕ → ObjLayout Value
headed object classes class = do
  h ← header
  body object class h (body_of classes class h.version h.sum)

-- an object, by how those of its class begin
unfoldable pub formed : Objects → List ClassDef → List ℕ → Form → ObjLayout Value
formed object classes class bare = bare_layout
formed object classes class (numbered prim) = number_array class prim
formed object classes class with_header = headed object classes class

-- an object of a class, with at most so many levels of objects
unfoldable pub object_of : ℕ → List ClassDef → Objects
object_of zero classes class = do place ← here; broken (TooDeep place)
object_of (suc levels) classes class = formed (object_of levels classes) classes class (form_of class)

-- ---- what data are

-- how deep an object may be
abbrev pub depth_limit : ℕ
depth_limit = 256

-- what is read of an object of the class at the front of the data, whose first byte has the place, and where reading stands then
abbrev pub first_at : List ClassDef → List ℕ → ℕ → List ℕ → Step Value
first_at classes class start bytes = read (object_of depth_limit classes class) (standing start bytes no_words)

-- what is read alone
abbrev pub only_value : Step Value → Result Value ObjFault
only_value (Ok x) = Ok x.0
only_value (Err e) = Err e

-- the value that the front of the data spells, or the first fault
abbrev pub value_at : List ClassDef → List ℕ → ℕ → List ℕ → Result Value ObjFault
value_at classes class start bytes = only_value (first_at classes class start bytes)

-- bytes at the front of the data, the first of which has the place, spell the value as an object of the class
unfoldable pub SpellsObject : List ClassDef → ℕ → List ℕ → Value → List ℕ → Type 0
SpellsObject classes start class v bytes =
    (t : WordsMet) × Spells (object_of depth_limit classes class) (start + length bytes) start no_words v bytes t

-- the data, whose first byte has the place, break with this fault as an object of the class
unfoldable pub BreaksObject : List ClassDef → ℕ → List ℕ → List ℕ → ObjFault → Type 0
BreaksObject classes start class bytes fault = Breaks (object_of depth_limit classes class) start no_words bytes fault
