-- What holds of each built-in class holds of what is said of a name.
use Rattle.std.proofs.{Common.{◌≡◌, ℕ, ℤ, Bool, true, false, cond, List, [], ◌∷◌, Option, None, refl}, lemmas.Bool.Decides.{Decides-int_eq}}
use Rattle.std.proofs.lemmas.Slice.Eq.{bytes_eq-Decides}
use Rattle.std.specs.{Ordering.{int_eq}, Str.{bytes_eq}}
use Rattle.rio_format.specs.Bodies.{Body, BuiltIn, by_name, own_body, row_of}
use Rattle.rio_format.proofs.ValueCases.{Each}

pub of_each : {A : Type 0} (P : A → Type 0) (say : BuiltIn → A) (other : A) (bs : List BuiltIn) (class : List ℕ) → Each (λ b. class ≡ (row_of b).name → P (say b)) bs → P other → P (by_name say other bs class)
of_each P say other [] class each rest = rest
of_each P say other (b ∷ bs) class each rest = by (bytes_eq class (row_of b).name) refl (of_each P say other bs class each.1 rest)
  where
    by : (test : Bool) → bytes_eq class (row_of b).name ≡ test → P (by_name say other bs class) → P (cond test (say b) (by_name say other bs class))
    by true e rest = each.0 ((bytes_eq-Decides class (row_of b).name).0 e)
    by false e rest = rest

pub of_body : (P : Option Body → Type 0) (bs : List BuiltIn) (class : List ℕ) (version : ℤ) → Each (λ b. class ≡ (row_of b).name → version ≡ (row_of b).version → P (row_of b).body) bs → P None → P (by_name (own_body version) None bs class)
of_body P [] class version each none = none
of_body P (b ∷ bs) class version each none = by (bytes_eq class (row_of b).name) (int_eq version (row_of b).version) refl refl (of_body P bs class version each.1 none)
  where
    by : (named stated : Bool) → bytes_eq class (row_of b).name ≡ named → int_eq version (row_of b).version ≡ stated → P (by_name (own_body version) None bs class)
        → P (cond named (cond stated (row_of b).body None) (by_name (own_body version) None bs class))
    by true true e f rest = each.0 ((bytes_eq-Decides class (row_of b).name).0 e) ((Decides-int_eq version (row_of b).version).0 f)
    by true false e f rest = none
    by false stated e f rest = rest
