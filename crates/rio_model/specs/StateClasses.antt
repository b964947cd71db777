-- The classes of a state: those that class commands have declared, one after the other, from no classes on.
use Rattle.std.specs.Prelude.{◌≡◌, ◌≤◌, ℕ, List, [], ◌∷◌, ◌++◌, length, not, IsTrue, None}
use Rattle.rio_format.specs.{declared.class.ClassDef.{ClassDef}, WrittenBytes.{length_limit, written_list}}
use Rattle.rio_model.specs.{Declaring.{declare_fault, declared, is_reserved_name}, Stated.{is_stated_class}}

-- a class command declares the class behind these: a declaration can give it, no rule forbids it, and each of its bases has
-- the newest version of its name
pub record IsDeclared (before : List ClassDef) (class : ClassDef) : Type 0 where
  pub stated : IsTrue (is_stated_class class)
  pub free : IsTrue (not (is_reserved_name class.name))
  pub allowed : declare_fault before class ≡ None
  pub newest : class ≡ declared before class

-- the class list that is written for the classes isn't too long for a record
abbrev pub HasShortList : List ClassDef → Type 0
HasShortList classes = length (written_list 0 classes) ≤ length_limit

-- the classes behind those before are declared one after the other
abbrev pub AreDeclared : List ClassDef → List ClassDef → Type 0
AreDeclared before [] = Unit {0}
AreDeclared before (c ∷ after) = IsDeclared before c × AreDeclared (before ++ c ∷ []) after

-- the same, and behind each of them the written list is short enough
abbrev pub AreAccepted : List ClassDef → List ClassDef → Type 0
AreAccepted before [] = Unit {0}
AreAccepted before (c ∷ after) = IsDeclared before c × HasShortList (before ++ c ∷ []) × AreAccepted (before ++ c ∷ []) after

-- accepted class commands make the list from no classes
abbrev pub StateClasses : List ClassDef → Type 0
StateClasses classes = AreAccepted [] classes

-- ---- laws

-- The list that is written gets no shorter with one class more. A new version of a class may change which classes reach
-- TObject, and so leave out the names of two classes of elements, but their bytes are fewer than those of any class.
abbrev pub WrittenListsGrow : Type 0
WrittenListsGrow = (start : ℕ) (classes : List ClassDef) (class : ClassDef) → length (written_list start classes) ≤ length (written_list start (classes ++ class ∷ []))

-- the list is as long wherever it starts
abbrev pub WrittenLengthsAreOne : Type 0
WrittenLengthsAreOne = (p q : ℕ) (classes : List ClassDef) → length (written_list p classes) ≡ length (written_list q classes)

-- so one look at the whole list tells that it was never too long
abbrev pub LastLengthDecides : Type 0
LastLengthDecides = (classes : List ClassDef) → AreDeclared [] classes → HasShortList classes → StateClasses classes
