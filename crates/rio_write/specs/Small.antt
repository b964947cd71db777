-- The small built-in classes are the same whatever other classes there are.
use Rattle.std.specs.Prelude.{◌≡◌, ◌<◌, ◌⊎◌, ℕ, ◌^◌, ℤ, pos, List, [], ◌∷◌, codes, true, IsTrue}
use Rattle.rio_format.specs.{declared.class.ClassDef.{ClassDef}, declared.kind.Kind.TheVariants.{Inline}, declared.value.Part.{Part}, declared.value.Value.{Value, Text, Object}}
use Rattle.rio_format.specs.{Bodies.{part}, Fits.{Fits}, Objects.{bare_object, has_pid, pid_part}, Slots.{kinded}, Written.{writing_of, written_form}, BuiltIn.{is_small_builtin}, ReaderState.{WordsMet}, Writer.{Writer}}
use Rattle.rio_write.specs.Writing.{IsSmallBuiltin}

-- ---- which objects

-- a TObject with bit 4 of fBits, and the fPid behind it
pub record IsObjectWithPid (v : Value) : Type 0 where
  pub id : ℕ
  pub bits : ℕ
  pub pid : ℕ
  pub id_fits : id < 2 ^ 32
  pub bits_fit : bits < 2 ^ 32
  pub bit_4 : has_pid bits ≡ true
  pub pid_fits : pid < 2 ^ 16
  pub value : v ≡ bare_object id bits (pid_part pid ∷ [])

-- a TNamed whose base is one
pub record IsNamedWithPid (v : Value) : Type 0 where
  pub base : Value
  pub name : List ℕ
  pub title : List ℕ
  pub with_pid : IsObjectWithPid base
  pub value : v ≡ Object (codes "TNamed") (pos 1) (part [] base ∷ part (codes "fName") (Text name) ∷ part (codes "fTitle") (Text title) ∷ [])

-- a TObjString whose base is one
pub record IsStringWithPid (v : Value) : Type 0 where
  pub base : Value
  pub text : List ℕ
  pub with_pid : IsObjectWithPid base
  pub value : v ≡ Object (codes "TObjString") (pos 1) (part [] base ∷ part (codes "fString") (Text text) ∷ [])

-- An object of one of these classes that fits it, or the same with fPid, with which none fits.
abbrev pub IsSmallObject : Value → Type 0
IsSmallObject v = IsSmallBuiltin v ⊎ IsObjectWithPid v ⊎ IsNamedWithPid v ⊎ IsStringWithPid v

-- what is written for an object as one of its own class
abbrev pub own_writing : List ClassDef → Value → Writer
own_writing classes v = (writing_of classes v).bytes (kinded (Inline (writing_of classes v).class))

-- ---- they are the same everywhere

-- it is an object in this version
abbrev pub HasVersion : ℤ → Value → Type 0
HasVersion version v = (class : List ℕ) × (parts : List Part) × (v ≡ Object class version parts)

-- What fits a small built-in class in version 1 over any class list fits it over none, and is written alike at every start.
-- A class list may describe other versions of TNamed and TObjString.
abbrev pub SmallBuiltinsAreAlike : Type 0
SmallBuiltinsAreAlike = (classes : List ClassDef) (start : ℕ) (class : List ℕ) (v : Value) → IsTrue (is_small_builtin class) → Fits classes class v → HasVersion (pos 1) v
    → Fits [] class v × (written_form classes start v ≡ written_form [] 0 v)

-- the same bytes are written over any class list, at every place and behind all words, and no words
abbrev pub SmallBuiltinsStandAnywhere : Type 0
SmallBuiltinsStandAnywhere = (classes : List ClassDef) (p : ℕ) (t : WordsMet) (v : Value) → IsSmallObject v → own_writing classes v p t ≡ (written_form [] 0 v, t)
