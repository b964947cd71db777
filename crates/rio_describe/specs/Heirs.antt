-- The classes that have a TObject among their bases, and how they are found.
use Rattle.std.specs.{Prelude.{◌≡◌, ℕ, ◌+◌, ℤ, List, ◌++◌, length, map, codes, Bool, true, ◌||◌}, List.{All, list_any}, Str.{bytes_eq}}
use Rattle.rio_format.specs.{declared.class.Base.{Base}, declared.class.ClassDef.{ClassDef}, Bases.{visit_bases}, Bodies.{headed_classes, row_of}, declared.built_in.BuiltIn.{BuiltIn}, Slots.{has_base}}
use Rattle.rio_format.specs.Visits.{base_of, is_visited}

-- the class in the version has a TObject among its bases, at any depth
abbrev pub is_heir : List ClassDef → List ℕ → ℤ → Bool
is_heir classes class version = has_base (length classes + 1) classes (codes "TObject") class version

-- one of the bases is a TObject or a known heir
abbrev pub has_reaching : List Base → List Base → Bool
has_reaching heirs bases = list_any (λ b. bytes_eq b.name (codes "TObject") || is_visited heirs b) bases

-- all of these are heirs
abbrev pub AreHeirs : List ClassDef → List Base → Type 0
AreHeirs classes heirs = All (λ b. is_heir classes b.name b.version ≡ true) heirs

-- these are the heirs: a class in a version is among them exactly where it has a TObject among its bases
abbrev pub AreTheHeirs : List ClassDef → List Base → Type 0
AreTheHeirs classes heirs = (class : List ℕ) (version : ℤ) → is_visited heirs (base_of class version) ≡ is_heir classes class version

-- ---- how they are found

-- the class is known afterwards, if one of its bases was a TObject or known before
abbrev pub IsTaken : List ClassDef → List Base → List Base → Base → Type 0
IsTaken classes old new b = has_reaching old (visit_bases classes b) ≡ true → is_visited new b ≡ true

-- These candidates were judged: those whose bases told it stand behind the heirs that were known, and nothing that is no heir.
pub record Judged (classes : List ClassDef) (candidates old new : List Base) : Type 0 where
  pub more : List Base
  pub is : new ≡ old ++ more
  pub sound : AreHeirs classes old → AreHeirs classes new
  pub taken : All (IsTaken classes old new) candidates

-- a described class in its version
abbrev pub class_base : ClassDef → Base
class_base c = base_of c.name c.version

-- a built-in class in its version
abbrev pub built_in_base : BuiltIn → Base
built_in_base b = base_of (row_of b).name (row_of b).version

-- the built-in classes that have a base
abbrev pub built_in_bases : List Base
built_in_bases = map built_in_base headed_classes

-- all that may have bases
abbrev pub candidates_of : List ClassDef → List Base
candidates_of classes = built_in_bases ++ map class_base classes
