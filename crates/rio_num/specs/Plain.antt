-- Descriptions of what refers to nothing that stands before it.
use Rattle.std.specs.Prelude.{◌≡◌, ℕ, ◌+◌, List, ◌++◌, length, Result, Ok, Err}
use Rattle.rio_num.specs.{At.{At}, Layout.{Layout}, Meanings.{Standing, Spells}}

abbrev pub Plain : Type 0 → Type 0 → Type 1
Plain F A = Layout (Unit {0}) F A

-- reading stands there
abbrev pub plain : At → Standing (Unit {0})
plain s = record { at = s; words = tt }

-- what was read, without the place where reading goes on
abbrev pub value_of : {A B E : Type 0} → Result (A × B) E → Result A E
value_of (Ok x) = Ok x.0
value_of (Err e) = Err e

-- these bytes spell it, wherever they stand
abbrev pub IsSpelledBy : {F A : Type 0} → Plain F A → A → List ℕ → Type 0
IsSpelledBy l x bytes = (place : ℕ) → Spells l (place + length bytes) place tt x bytes tt

-- a front of the bytes is spelled so
abbrev pub IsSpelledIn : (List ℕ → Type 0) → List ℕ → Type 0
IsSpelledIn spells bytes = (front : List ℕ) × (rest : List ℕ) × (bytes ≡ front ++ rest) × spells front

-- one thing is spelled at the beginning of some bytes, by one front of them
abbrev pub IsOne : {X : Type 0} → (X → List ℕ → Type 0) → Type 0
IsOne {X = X} spells = (a b : X) (xs ys more others : List ℕ) → xs ++ more ≡ ys ++ others → spells a xs → spells b ys → (a ≡ b) × (xs ≡ ys)
