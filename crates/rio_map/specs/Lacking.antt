-- Classes without a zero, and the ways on which they are found.
use Rattle.std.specs.Prelude.{◌≡◌, ℕ, suc, List, [], ◌∷◌, Option, None}
use Rattle.rio_format.specs.{declared.class.ClassDef.{ClassDef}, declared.value.Value.{Value}, Slots.{Slot}}
use Rattle.rio_model.specs.Mapping.{slot_zero, zero_within}
use Rattle.rio_map.specs.declared.lacking.Need.{Need, TheVariants.{Class, Nothing, Impossible}}

-- no object is a zero of the class, however many objects are within one another
abbrev pub HasNoZero : List ClassDef → List ℕ → Type 0
HasNoZero classes class = (levels : ℕ) → zero_within levels classes class ≡ None

-- the zero of a class needs that of the other, which is within it
abbrev pub Needs : List ClassDef → List ℕ → List ℕ → Type 0
Needs classes class other = (levels : ℕ) → zero_within levels classes other ≡ None → zero_within (suc levels) classes class ≡ None

-- each of these classes needs the next, and the class needs the first
abbrev pub LeadsOn : List ClassDef → List ℕ → List (List ℕ) → Type 0
LeadsOn classes class [] = Unit {0}
LeadsOn classes class (next ∷ way) = Needs classes class next × LeadsOn classes next way

-- the class, one that it needs, and so on
abbrev pub IsWay : List ClassDef → List ℕ → List (List ℕ) → Type 0
IsWay classes class [] = Unit {0}
IsWay classes class (first ∷ way) = (first ≡ class) × LeadsOn classes first way

-- what the zero of a part needs
abbrev pub SlotNeeds : Slot → Need → Type 0
SlotNeeds slot (Class other) = (object : List ℕ → Option Value) → object other.now ≡ None → slot_zero object slot ≡ None
SlotNeeds slot Nothing = Unit {0}
SlotNeeds slot Impossible = (object : List ℕ → Option Value) → slot_zero object slot ≡ None

-- what the zero of the class needs
abbrev pub ClassNeeds : List ClassDef → List ℕ → Need → Type 0
ClassNeeds classes class (Class other) = Needs classes class other.now
ClassNeeds classes class Nothing = Unit {0}
ClassNeeds classes class Impossible = HasNoZero classes class
