-- Looking for declared classes.
use Rattle.std.proofs.Common.{◌≡◌, ℕ, List, [], ◌∷◌, Bool, true, false, ◌||◌, Option, Some, None, if◌then◌else◌, refl}
use Rattle.std.specs.{Borrow.{Bor}, Prelude.{is_some}, Option.{option_copied}, Str.{bytes_eq}}
use Rattle.rio_format.specs.{Classes.{newer_of, newest_in}, declared.class.ClassDef.{ClassDef}}
use Rattle.rio_model.specs.Declaring.{is_declared}

chosen : (b : Bool) (c : ClassDef) (rest : Option ClassDef) → is_some (if b then Some (newer_of c rest) else rest) ≡ (b || is_some rest)
chosen true c rest = refl
chosen false c rest = refl

-- a class of the name is declared where there is a newest one
pub is_some-newest_in : (classes : List ClassDef) (name : List ℕ) → is_some (newest_in classes name) ≡ is_declared classes name
is_some-newest_in [] name = refl
is_some-newest_in (c ∷ cs) name =
    rw (chosen (bytes_eq c.name name) c (newest_in cs name), is_some-newest_in cs name) refl

pub is_some-option_copied : {X : Type 0} (o : Option (Bor X)) → is_some (option_copied o) ≡ is_some o
is_some-option_copied None = refl
is_some-option_copied (Some x) = refl
